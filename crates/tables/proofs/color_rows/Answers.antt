use mathlib.Core.Path.{◌≡◌, sym, ◌∙◌}
use Prim.Native.Nat.{◌<◌}
use native.Mathlib.Omega.{arith}
use lib.ListN.{get_or}
use lib.Seq.{ext_get_or}
use borrow.Author.Rules.{rules}
use Rattle.tables.specs.Icdf.{color_table, color_rows}
use Rattle.tables.proofs.Flat.{place, by_place_is, count}
use Rattle.tables.proofs.color_rows.Goals as goal

pub returns : goal.returns
unfolding color_table
returns c =
    let items = c.from_fn.ensures.items in
    ext_get_or 0 c.from_fn.result color_rows (items.long ∙ sym count)
    (λ i b.
    let h : i < 245 = omega (arith, items.long, b) in
    let call = items.at i 0 h in
    let one : get_or c.from_fn.result i 0 ≡ place i = search rules in
    one ∙ by_place_is i h)
