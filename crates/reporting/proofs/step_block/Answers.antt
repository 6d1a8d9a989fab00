use native.Mathlib.Omega.{arith}
use Rattle.reporting.proofs.Lines.{step_ended, step_going, length_last}
use Rattle.reporting.proofs.Stream.{block_fits}
use Rattle.reporting.proofs.step_block.Goals as goal

pub add-page-requires : goal.add-page-requires
add-page-requires c =
    let start = c.requires in
    (start.0, start.1, c.next_block-b.ensures.1)

pub returns-then-taken-eq0 : goal.returns-then-taken-eq0
returns-then-taken-eq0 c =
    let a = c.args in
    let b = c.next_block-b in
    let line = c.print_block-end.ensures in
    let page = c.add-page.ensures in
    let last = c.print_last-count.ensures in record {
      steps = step_ended a.s.now a.p a.out.now b.result b.ensures.0 c.requires.3 _ _ line.value.0 line.out_after _ page.0
          _ _ c.if-taken-eq0.true last.value last.out_after;
      fits = (
        page.1,
        block_fits a.p a.s.now b.result b.ensures.0,
        omega (arith, last.value, length_last c.add-page.result, line.value.1),
      );
    }

pub returns : goal.returns
returns c =
    let a = c.args in
    let b = c.next_block-b in
    let line = c.print_block-end.ensures in
    let page = c.add-page.ensures in record {
      steps = step_going a.s.now a.p a.out.now b.result b.ensures.0 c.requires.3 _ _ line.value.0 line.out_after _ page.0
          c.if-taken-eq0.false;
      fits = (page.1, block_fits a.p a.s.now b.result b.ensures.0, omega (arith, line.value.1));
    }
