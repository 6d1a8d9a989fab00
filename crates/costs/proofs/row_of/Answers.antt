use mathlib.Core.Path.{◌≡◌, refl, sym, ◌∙◌}
use mathlib.Core.Bool.{false}
use Prim.Native.Nat.{◌+◌, ◌-◌}
use native.Mathlib.Omega.{arith}
use lib.Dec.{eqb}
use lib.ListN.{length}
use Rattle.costs.proofs.row_of.Goals as goal

pub returns : goal.returns
returns c =
    let a = c.args in
    let lent : eqb (length a.adapted.now) 0 ≡ false = sym c.is_empty.ensures ∙ c.if-is_empty.false in
    let e : a.at + a.len - a.at ≡ a.len = omega arith in
    rw (e, lent) refl
