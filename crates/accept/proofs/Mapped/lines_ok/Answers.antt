use borrow.Author.Count.{below_more}
use Rattle.std.proofs.Common.{sym, arith}
use Rattle.lists.proofs.Counted.{all_below_of, all_below_not}
use Rattle.accept.proofs.Mapped.lines_ok.Goals as goal

pub returns-then-not-line_ok : goal.returns-then-not-line_ok
returns-then-not-line_ok c =
    sym (all_below_not _ _ c.loop-l.l (omega arith) (sym c.if-not-line_ok.ensures))

pub loop-l-preserved : goal.loop-l-preserved
loop-l-preserved c = below_more _ _ c.loop-l.invariant (sym c.if-not-line_ok.ensures)

pub returns : goal.returns
returns c = sym (all_below_of _ _ (λ k h. c.loop-l.invariant k (omega arith)))
