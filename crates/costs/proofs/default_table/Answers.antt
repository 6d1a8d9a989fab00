use mathlib.Core.Path.{◌≡◌, sym, ◌∙◌}
use Prim.Native.Nat.{◌<◌}
use native.Mathlib.Omega.{arith}
use lib.ListN.{get_or}
use lib.Seq.{ext_get_or}
use borrow.Author.Rules.{rules}
use Rattle.costs.specs.Rows.{defaults}
use Rattle.costs.proofs.Defaults.{count}
use Rattle.costs.proofs.default_table.Goals as goal

pub returns : goal.returns
returns c =
    let items = c.from_fn.ensures.items in
    ext_get_or 0 c.from_fn.result defaults (items.long ∙ sym count)
    (λ i b.
    let h : i < 260 = omega (arith, items.long, b) in
    let call = items.at i 0 h in
    let one : get_or c.from_fn.result i 0 ≡ get_or defaults i 0 = search rules in
    one)
