use mathlib.Core.Path.{◌∙◌}
use Rattle.reader.proofs.Steps.{passed_on}
use Rattle.read_colors.proofs.Climb.{more_none, more_whole}
use Rattle.read_colors.proofs.read_more.Goals as goal

pub returns-then-n-held-clause-reads : goal.returns-then-n-held-clause-reads
returns-then-n-held-clause-reads c = more_none _ _ _ c.args.held _ c.if-n-held.true

pub returns-in_err-more-clause-reads : goal.returns-in_err-more-clause-reads
returns-in_err-more-clause-reads c =
    passed_on _ _ _ _ _ c.from_residual.ensures.1 (more_whole _ _ _ c.args.held _ c.if-n-held.false _ c.in_err-more.ensures.reads)

pub returns-clause-reads : goal.returns-clause-reads
returns-clause-reads c = more_whole _ _ _ c.args.held _ c.if-n-held.false _ c.in_ok-more.ensures.reads ∙ c.read_steps.ensures.reads
