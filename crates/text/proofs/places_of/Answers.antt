use native.Mathlib.Omega.{arith}
use mathlib.Core.Path.{refl}
use Rattle.text.specs.Text.{places_of}
use Rattle.text.proofs.Sound.{rows_small}
use Rattle.text.proofs.places_of.Goals as goal

pub overflow_mul-end-2 : goal.overflow_mul-end-2
overflow_mul-end-2 c = omega (arith, rows_small c.args.h c.requires.0)

pub overflow_add-end-2 : goal.overflow_add-end-2
overflow_add-end-2 c = omega (arith, rows_small c.args.h c.requires.0, c.lines_in.ensures.1)

pub returns : goal.returns
unfolding places_of
returns c =
    let h = c.args.h in
    let small = c.requires.0 in
    let lines = c.lines_in.ensures.1 in
    let rows = rows_small h small in record {
      value = rw c.lines_in.ensures.0 refl;
      colors_bound = (
        omega arith,
        omega (arith, small.colors),
        omega (arith, small.colors, small.cached),
        omega (arith, small.colors, small.cached, lines),
        omega (arith, small.colors, small.cached, lines, rows),
      );
    }
