use mathlib.Core.Path.{◌≡◌}
use Rattle.cells.specs.Cell.{eight}
use Rattle.map_search.specs.Lines.{dist_line}
use Rattle.map_search.proofs.Distances.const_dists.Given as goal

abbrev pub invariant-loop-a : goal.invariant-loop-a
invariant-loop-a l = l.t ≡ eight (λ c. dist_line l.self.samples.now l.self.colors.now l.s l.l (λ b. c) l.a)
