use mathlib.Core.Path.{◌≡◌, refl, sym, ◌∙◌}
use mathlib.Core.Bool.{Bool, true, false, false≢true}
use Prim.Native.Nat.{ℕ, ◌<◌}
use Rattle.std.proofs.Common.{Option, Some}
use Rattle.std.specs.Option.{IfSome}
use Rattle.lists.proofs.Choice.{either_way}
use native.Mathlib.Omega.{arith}
use lib.ListN.{get_or}
use lib.Ieee.{Float, nan}
use Rattle.sizes.specs.Order.{those}
use Rattle.sizes.proofs.Turns.{leads, step, found_none, next_turn}
use Rattle.sizes.proofs.next_size.Goals as goal
use Rattle.sizes.proofs.next_size.Goals.{then-open-k+then-leads, in-Some, in-None, then-open-k+else-leads, else-open-k}

pub loop-k-preserved : goal.loop-k-preserved
loop-k-preserved c =
    let a = c.args in
    let l = c.loop-k in
    let cost : ℕ → Float = λ j. get_or a.lbs.now j nan in
    let test : ℕ → Bool = λ j. get_or a.«open».now j false in
    let e : c.if-open-k.best ≡ step cost test l.best l.k =
    elim c.if-open-k.branch [
      | then-open-k+then-leads w ↦
          let is : leads cost l.best l.k ≡ true =
          elim w.match-best.branch [
            | in-Some x ↦ rw x.in-Some.is (sym x.leads-is ∙ w.if-leads.true)
            | in-None x ↦ rw x.in-None.is refl
          ] in
          w.best-is ∙ rw (w.if-open-k.true, is) refl
      | then-open-k+else-leads w ↦
          let is : (leads cost l.best l.k ≡ false) × (w.match-best.best ≡ l.best) =
          elim w.match-best.branch [
            | in-Some x ↦ (rw x.in-Some.is (sym x.leads-is ∙ w.if-leads.false), x.best-is ∙ sym x.in-Some.is)
            | in-None x ↦ absurd (false≢true (sym w.if-leads.false ∙ x.leads-is))
          ] in
          w.best-is ∙ is.1 ∙ rw (w.if-open-k.true, is.0) refl
      | else-open-k w ↦ w.best-is ∙ rw w.if-open-k.false refl
    ] in
    let Below = λ (best : Option ℕ). IfSome best (λ j. j < 9) in (
      next_turn cost test l.best l.k c.if-open-k.best (omega arith) (omega arith) e ∙ l.invariant.0,
      rw e (either_way Below (test l.k) _ l.best (either_way Below (leads cost l.best l.k) (Some l.k) l.best
          c.loop-k-test.true l.invariant.1) l.invariant.1),
    )

pub returns : goal.returns
unfolding those
returns c =
    let a = c.args in
    let l = c.loop-k in
    let e : l.k ≡ 9 = omega arith in
    sym (found_none (λ j. get_or a.lbs.now j nan) l.best) ∙ (rw e at l.invariant.0)
