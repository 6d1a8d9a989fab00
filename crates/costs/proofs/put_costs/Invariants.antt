use lib.ListN.{length}
use lib.Ieee.{nan}
use Rattle.lists.specs.Counted.{each}
use Rattle.lists.proofs.Each.{Filled}
use Rattle.costs.specs.Costs.{cost_in}
use Rattle.costs.proofs.put_costs.Given as goal

abbrev pub invariant-loop-s : goal.invariant-loop-s
invariant-loop-s l = Filled nan (each (cost_in l.row) (length l.initial.costs)) l.costs l.s
