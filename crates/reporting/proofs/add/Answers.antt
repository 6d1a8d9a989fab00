use native.Mathlib.Omega.{arith}
use mathlib.Core.Path.{refl}
use Rattle.reporting.proofs.add.Goals as goal

pub returns : goal.returns
returns c =
    let start = c.requires in
    let p = start.0 in
    let b = start.2 in (
      refl,
      record {
        lines = omega (arith, start.1);
        calls = omega (arith, p.calls, b.calls, b.cells);
        cells = omega (arith, p.cells, b.cells);
        raw = omega (arith, p.raw, b.raw);
      },
    )
