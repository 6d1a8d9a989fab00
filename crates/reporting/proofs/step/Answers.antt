use native.Mathlib.Omega.{arith}
use Rattle.reporting.proofs.Lines.{step_empty, length_last}
use Rattle.reporting.proofs.step.Goals as goal

pub returns-then-s-eq0 : goal.returns-then-s-eq0
returns-then-s-eq0 c =
    let a = c.args in
    let last = c.print_last-count.ensures in record {
      steps = step_empty a.s.now a.p a.out.now _ _ c.if-s-eq0.true last.value last.out_after;
      fits =
          (c.requires.0, omega arith, omega (arith, last.value, length_last a.p));
    }

pub step_block-requires : goal.step_block-requires
step_block-requires c =
    let p = c.requires in
    (p.0, p.1, p.2, omega (arith, c.if-s-eq0.false))

pub returns : goal.returns
returns c = c.step_block.ensures
