use mathlib.Core.Path.{◌≡◌, refl, sym, ◌∙◌}
use Prim.Native.Nat.{◌+◌, ◌-◌, ◌*◌, ◌≤◌}
use native.Mathlib.Omega.{arith}
use lib.ListN.{length}
use borrow.Author.Tests.{lt-leb, le-ltb}
use Rattle.color_ctx.specs.Context.{context_ok, context_of}
use Rattle.lists.proofs.Choice.{and_false}
use Rattle.color_ctx.proofs.Parts.{one_min, three_past, at_top, at_side, at_inside}
use Rattle.color_ctx.proofs.context_at.Goals as goal
use Rattle.color_ctx.proofs.context_at.Goals.{then-n-lt2-via-then-n-lt2, then-n-lt2-via-else-n-lt2+then-n-gt8, then-n-lt2-via-else-n-lt2+else-n-gt8+then-stride-x}

pub returns-then-n-lt2 : goal.returns-then-n-lt2
unfolding context_of context_ok
returns-then-n-lt2 c = elim c.then-n-lt2.branch [
  | then-n-lt2-via-then-n-lt2 w ↦ sym (simp (lt-leb _ _ w.if-n-lt2.true, and_false))
  | then-n-lt2-via-else-n-lt2+then-n-gt8 w ↦ sym (simp (lt-leb _ _ w.if-n-gt8.true, and_false))
  | then-n-lt2-via-else-n-lt2+else-n-gt8+then-stride-x w ↦ sym (simp (le-ltb _ _ w.if-stride-x.true, and_false))
]

pub returns-in-0-eq0 : goal.returns-in-0-eq0
unfolding context_of context_ok
returns-in-0-eq0 c = sym (rw (c.in-0-eq0.is-0, c.in-0-eq0.is-1) refl)

pub returns-in-0-default : goal.returns-in-0-default
returns-in-0-default c =
    let a = c.args in
    let top = at_top a.map.now a.stride a.n (omega arith) (omega arith) a.x (omega arith) (omega arith) in
    c.from_one.ensures ∙ sym (rw c.in-0-default.is-0 top)

pub returns-in_default-eq0 : goal.returns-in_default-eq0
returns-in_default-eq0 c =
    let a = c.args in
    let side = at_side a.map.now a.stride a.n (omega arith) (omega arith) a.y (omega arith) (omega arith) in
    c.from_one-in_default-eq0.ensures ∙ one_min _ _ _ _ c.place_of.ensures ∙ sym (rw c.in_default-eq0.is-1 side)

pub returns-then-left-map : goal.returns-then-left-map
returns-then-left-map c =
    let a = c.args in
    let p = a.y * a.stride + (a.x - 1) in
    let past : length a.map.now ≤ p = omega (arith, c.place_of-left.ensures, c.if-left-map.true) in
    let inside = at_inside a.map.now a.stride a.n (omega arith) (omega arith) a.y a.x p (omega arith) (omega arith) (omega arith) refl in
    sym (inside ∙ three_past _ _ _ _ _ past)

pub returns-else-left-map : goal.returns-else-left-map
returns-else-left-map c =
    let a = c.args in
    let p = c.place_of-left.result in
    let is : p ≡ a.y * a.stride + (a.x - 1) = omega (arith, c.place_of-left.ensures, c.if-left-map.false) in
    let inside = at_inside a.map.now a.stride a.n (omega arith) (omega arith) a.y a.x p (omega arith) (omega arith) (omega arith) is in
    c.from_three.ensures ∙ sym inside
