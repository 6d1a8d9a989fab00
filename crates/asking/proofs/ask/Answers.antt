use Rattle.map_search.proofs.Neighbours.{first_line_holds}
use mathlib.Core.Path.{◌∙◌}
use Rattle.asking.proofs.ask.Goals as goal

pub returns-then-l-eq0-clause-key_value : goal.returns-then-l-eq0-clause-key_value
returns-then-l-eq0-clause-key_value c =
    let a = c.args in
    c.edge_key.ensures ∙ first_line_holds a.map.now a.search.now.scan a.l c.if-l-eq0.true
