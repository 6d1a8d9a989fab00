use Rattle.map_search.specs.declared.Choice.{Choice}
use Rattle.map_search.specs.Parts.{constants_by}
use Rattle.cells.specs.Cell.{cheapest}
use Prim.Native.Nat.{suc, ◌+◌, ◌-◌}
use native.Mathlib.Omega.{arith}
use mathlib.Core.Bool.{true, false, cond}
use mathlib.Core.Logic.{◌⊎◌, inl, inr}
use lib.Ieee.{Float, lt}
use mathlib.Core.Path.{◌≡◌, sym, ap, ◌∙◌}
use Rattle.map_search.proofs.best_const.Invariants.{total}
use Rattle.map_search.proofs.best_const.Goals as goal
use Rattle.map_search.proofs.best_const.Goals.{then-total-least, else-total-least}

-- the next one or the best so far, by the total that is carried along
by_least : (lambda least t least' : Float) (best next best' : Choice) → least ≡ total lambda best → t ≡ total lambda next
    → ((lt t least ≡ true) × (best' ≡ next) × (least' ≡ t)) ⊎ ((lt t least ≡ false) × (best' ≡ best) × (least' ≡ least))
    → (best' ≡ cond (lt (total lambda next) (total lambda best)) next best) × (least' ≡ total lambda best')
by_least lambda least t least' best next best' e f (inl w) =
    (rw (rw (e, f) at w.0) w.1, w.2 ∙ f ∙ ap (total lambda) (sym w.1))
by_least lambda least t least' best next best' e f (inr w) =
    (rw (rw (e, f) at w.0) w.1, w.2 ∙ e ∙ ap (total lambda) (sym w.1))

pub loop-c-preserved : goal.loop-c-preserved
unfolding cheapest constants_by
loop-c-preserved c =
    let l = c.loop-c in
    let p = c.args in
    let next = c.constant-next.result in
    let e : p.n - l.c ≡ suc (p.n - (l.c + 1)) = omega (arith, c.loop-c-test.true) in
    let kept = by_least p.lambda l.least c.total-total.result c.if-total-least.least l.best next c.if-total-least.best l.invariant.1
    c.total-total.ensures
    (elim c.if-total-least.branch [
      | then-total-least w ↦ inl (w.if-total-least.true, w.best-is, w.least-is)
      | else-total-least w ↦ inr (w.if-total-least.false, w.best-is, w.least-is)
    ]) in
    (rw (kept.0, c.constant-next.ensures) (rw e at l.invariant.0), kept.1)

pub returns : goal.returns
unfolding cheapest constants_by
returns c =
    let none : c.args.n - c.loop-c.c ≡ 0 = omega (arith, c.loop-c-test.false) in
    rw none at c.loop-c.invariant.0
