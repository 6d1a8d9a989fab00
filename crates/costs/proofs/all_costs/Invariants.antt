use Rattle.costs.specs.Costs.{table_of}
use Rattle.costs.proofs.Begun.{Begun}
use Rattle.costs.proofs.all_costs.Given as goal

abbrev pub invariant-loop-r : goal.invariant-loop-r
invariant-loop-r l = Begun (table_of l.adapted l.default) l.costs l.r
