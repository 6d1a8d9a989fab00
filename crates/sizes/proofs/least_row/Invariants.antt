use mathlib.Core.Path.{◌≡◌}
use lib.ListN.{drop}
use Rattle.sizes.specs.Sizes.{least_of, least_row}
use Rattle.sizes.proofs.least_row.Given as goal

abbrev pub invariant-loop-cost : goal.invariant-loop-cost
invariant-loop-cost l = least_of l.least (drop l.cost-index l.cost-items) ≡ least_row l.costs
