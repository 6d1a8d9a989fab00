use mathlib.Core.Path.{sym, ◌∙◌}
use Rattle.reader.proofs.Steps.{passed_on}
use Rattle.reading.proofs.Ahead.{orient_told, orient_plain}
use Rattle.reading.proofs.read_orient.Goals as goal

pub returns-then-not-orient_sent-clause-reads : goal.returns-then-not-orient_sent-clause-reads
returns-then-not-orient_sent-clause-reads c = orient_plain _ _ _ (sym c.orient_sent.ensures ∙ c.if-not-orient_sent.true)

pub returns-in_err-bit-clause-reads : goal.returns-in_err-bit-clause-reads
returns-in_err-bit-clause-reads c =
    passed_on _ _ _ _ _ c.from_residual.ensures.1
    (orient_told _ _ _ (sym c.orient_sent.ensures ∙ c.if-not-orient_sent.false) _ c.in_err-bit.ensures.reads)

pub returns-clause-reads : goal.returns-clause-reads
returns-clause-reads c = orient_told _ _ _ (sym c.orient_sent.ensures ∙ c.if-not-orient_sent.false) _ c.in_ok-bit.ensures.reads
