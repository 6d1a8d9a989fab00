use mathlib.Core.Path.{ap, ◌∙◌}
use native.Mathlib.Omega.{arith}
use lib.ListN.{length-set}
use Rattle.sizes.specs.Sizes.{size_of}
use Rattle.sizes.proofs.Turns.{placed_turn}
use Rattle.sizes.proofs.Sizes.lbs_of.Goals as goal

pub loop-k-preserved : goal.loop-k-preserved
loop-k-preserved c =
    let s = c.args.self.now in
    let l = c.loop-k in
    let lb = c.size_of.result.lb in (
      length-set l.lbs l.k lb ∙ l.invariant.0,
      placed_turn (λ j. (size_of s.costs.now s.block s.histogram.now j).lb) l.lbs l.k lb (omega arith)
          (ap (λ z. z.lb) c.size_of.ensures) l.invariant.1,
    )
