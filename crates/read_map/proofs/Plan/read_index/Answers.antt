use mathlib.Core.Path.{◌∙◌}
use Rattle.read_map.proofs.Ranked.{index_first, index_ranked}
use Rattle.read_map.proofs.Plan.read_index.Goals as goal

pub returns-then-l-a-eq0-clause-reads : goal.returns-then-l-a-eq0-clause-reads
returns-then-l-a-eq0-clause-reads c = index_first _ _ _ _ _ _ c.if-l-a-eq0.true ∙ c.read_first.ensures.reads

pub returns-clause-reads : goal.returns-clause-reads
returns-clause-reads c = index_ranked _ _ _ _ _ _ c.if-l-a-eq0.false ∙ c.read_ranked.ensures.reads
