use mathlib.Core.Path.{◌∙◌}
use lib.ListN.{length}
use borrow.Author.Rules.{rules}
use Rattle.map_search.proofs.Neighbours.{first_inside, first_line_holds}
use Rattle.map_search.proofs.Search.first_key.Goals as goal

pub returns-then-l-eq0 : goal.returns-then-l-eq0
returns-then-l-eq0 c =
    let a = c.args in
    c.edge_key.ensures ∙ first_line_holds a.map.now a.self.now.scan a.l c.if-l-eq0.true

pub key_cell-requires : goal.key_cell-requires
key_cell-requires c =
    let s = c.args.self.now.scan in
    (first_inside s.transposed s.w (length c.args.map.now) _ c.args.l c.requires.0 (search rules), c.requires.1)

pub returns : goal.returns
returns c = c.key_cell.ensures
