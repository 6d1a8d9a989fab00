use mathlib.Core.Path.{◌≡◌, ap, ◌∙◌}
use mathlib.Core.Logic.{inl, inr}
use Prim.Native.Nat.{◌+◌}
use native.Mathlib.Omega.{arith}
use Rattle.costs.specs.Cost.{meets, last, cost_of}
use Rattle.costs.specs.Thresholds.{threshold_table}
use Rattle.costs.proofs.Counting.{begins, turn}
use Rattle.costs.proofs.cost_of.Goals as goal
use Rattle.costs.proofs.cost_of.Goals.{then-p-threshold, else-p-threshold}

pub loop-threshold-init : goal.loop-threshold-init
loop-threshold-init c = (begins _, omega arith)

pub loop-threshold-preserved : goal.loop-threshold-preserved
unfolding threshold_table
loop-threshold-preserved c =
    let l = c.loop-threshold in
    let e = c.all_thresholds.ensures in (
      turn _ l.c l.threshold-index c.if-p-threshold.c (omega (arith, c.loop-threshold-test.true)) l.invariant.0
          (elim c.if-p-threshold.branch [
            | then-p-threshold w ↦ inl (rw e at w.if-p-threshold.true, w.c-is)
            | else-p-threshold w ↦ inr (rw e at w.if-p-threshold.false, w.c-is)
          ]),
      elim c.if-p-threshold.branch [
        | then-p-threshold w ↦ omega (arith, w.c-is, l.invariant.1)
        | else-p-threshold w ↦ omega (arith, w.c-is, l.invariant.1)
      ],
    )

pub returns : goal.returns
unfolding cost_of
returns c =
    let l = c.loop-threshold in
    let e : l.threshold-index + 1 ≡ 241 = omega (arith, l.auto.threshold-index-end, c.loop-threshold-test.false) in
    l.invariant.0 ∙ ap (last (meets _)) e
