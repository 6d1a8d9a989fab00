use mathlib.Core.Path.{◌∙◌}
use Rattle.reader.proofs.Steps.{passed_on}
use Rattle.read_colors.proofs.Inserted.{length_held}
use Rattle.read_colors.proofs.Climb.{colors_whole, sized_whole}
use Rattle.read_colors.proofs.read_colors.Goals as goal

pub returns-in_err-size-clause-reads : goal.returns-in_err-size-clause-reads
returns-in_err-size-clause-reads c = passed_on _ _ _ _ _ c.from_residual.ensures.1 (colors_whole _ _ _ _ c.in_err-size.ensures.reads)

pub returns-in_err-held-clause-reads : goal.returns-in_err-held-clause-reads
returns-in_err-held-clause-reads c =
    passed_on _ _ _ _ _ c.from_residual-in_err-held.ensures.1
    (colors_whole _ _ _ _ c.in_ok-size.ensures.reads ∙ sized_whole _ _ _ _ _ c.in_err-held.ensures.reads)

pub returns-clause-reads : goal.returns-clause-reads
returns-clause-reads c =
    colors_whole _ _ _ _ c.in_ok-size.ensures.reads ∙ sized_whole _ _ _ _ _ c.in_ok-held.ensures.reads
    ∙ rw (length_held c.in_ok-held.held) c.read_literals.ensures.reads
