use lib.ListN.{length}
use Rattle.sizes.proofs.Open.{opened}
use Rattle.search.proofs.Walk.{Walking}
use Rattle.search.proofs.Task.find.Given as goal

abbrev pub invariant-loop-k : goal.invariant-loop-k
invariant-loop-k l = let z = l.self.sizes in
    Walking l.self.samples.now z.costs.now z.block z.histogram.now l.lbs l.left l.kept

abbrev pub decreases-loop-k : goal.decreases-loop-k
decreases-loop-k l = length (opened l.left)
