use mathlib.Core.Path.{◌∙◌}
use Rattle.reader.proofs.Steps.{passed_on}
use Rattle.read_colors.proofs.Climb.{steps_fault, steps_turn, steps_end}
use Rattle.read_colors.proofs.read_steps.Goals as goal

pub returns-in_err-step-clause-reads : goal.returns-in_err-step-clause-reads
returns-in_err-step-clause-reads c =
    let k = rw c.step_limit.ensures at c.in_err-step.ensures.reads in
    passed_on _ _ _ _ _ c.from_residual.ensures.1 (steps_fault _ _ _ _ _ _ _ c.loop-held.invariant.0 c.loop-held-test.true _ k)

pub loop-held-preserved : goal.loop-held-preserved
loop-held-preserved c =
    let k = rw c.step_limit.ensures at c.in_ok-step.ensures.reads in
    let less = rw c.step_limit.ensures at c.in_ok-step.ensures.below in
    let i = c.insert.ensures in (
      steps_turn _ _ _ _ _ _ _ c.loop-held.invariant.0 c.loop-held-test.true _ _ k less _ i.one_more _ _ c.level_above-last.ensures c.cut_bits-b.ensures i.inserted,
      c.in_ok-step.ensures.list ∙ c.loop-held.invariant.1,
    )

pub returns-clause-reads : goal.returns-clause-reads
returns-clause-reads c = steps_end _ _ _ _ _ _ _ c.loop-held.invariant.0 c.loop-held-test.false
