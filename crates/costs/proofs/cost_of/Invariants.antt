use mathlib.Core.Path.{◌≡◌}
use Prim.Native.Nat.{◌+◌, ◌≤◌}
use Rattle.costs.specs.Cost.{meets, last}
use Rattle.costs.proofs.cost_of.Given as goal

abbrev pub invariant-loop-threshold : goal.invariant-loop-threshold
invariant-loop-threshold l = (l.c ≡ last (meets l.p) (l.threshold-index + 1)) × (l.c ≤ l.threshold-index)
