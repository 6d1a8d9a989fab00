use mathlib.Core.Path.{◌≡◌}
use lib.ListN.{length}
use Rattle.map_search.specs.Lines.{cells_of}
use Rattle.map_search.proofs.Search.cell_by_cell.Given as goal

abbrev pub invariant-loop-a : goal.invariant-loop-a
invariant-loop-a l =
    let p = l.self.pricing.now in
    (l.map ≡ (cells_of l.self.samples.now p.costs.now p.colors p.n p.lambda l.self.scan l.initial.map l.l l.row l.a).map)
    × (l.cost ≡ (cells_of l.self.samples.now p.costs.now p.colors p.n p.lambda l.self.scan l.initial.map l.l l.row l.a).cost)
    × (length l.map ≡ length l.initial.map)
