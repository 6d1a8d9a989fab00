use mathlib.Core.Path.{sym, ◌∙◌}
use Rattle.search.specs.Search.{tried_both}
use Rattle.search.proofs.Trial.both.Goals as goal

pub returns-then-orient_sent : goal.returns-then-orient_sent
unfolding tried_both
returns-then-orient_sent c =
    λ s S. rw (sym c.orient_sent.ensures ∙ c.if-orient_sent.true) (c.one-then-orient_sent.ensures _ (c.one.ensures s S))

pub returns-else-orient_sent : goal.returns-else-orient_sent
unfolding tried_both
returns-else-orient_sent c = λ s S. rw (sym c.orient_sent.ensures ∙ c.if-orient_sent.false) (c.one.ensures s S)
