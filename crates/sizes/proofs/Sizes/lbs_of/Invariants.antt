use mathlib.Core.Path.{◌≡◌}
use Prim.Native.Nat.{ℕ, ◌≤◌, ◌<◌}
use lib.ListN.{length, get_or}
use lib.Ieee.{nan}
use Rattle.sizes.specs.Sizes.{size_of}
use Rattle.sizes.proofs.Sizes.lbs_of.Given as goal

abbrev pub invariant-loop-k : goal.invariant-loop-k
invariant-loop-k l =
    let s = l.self in
    (length l.lbs ≡ 9)
    × ((j : ℕ) → j < l.k → 2 ≤ j → get_or l.lbs j nan ≡ (size_of s.costs.now s.block s.histogram.now j).lb)
