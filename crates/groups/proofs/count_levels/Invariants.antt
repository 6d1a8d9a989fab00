use mathlib.Core.Path.{◌≡◌}
use mathlib.Core.List.{map}
use Prim.Native.Nat.{ℕ, ◌+◌, ◌<◌}
use lib.ListN.{get_or, drop}
use Rattle.samples.specs.Samples.{level_of}
use Rattle.groups.specs.Histogram.{occurs}
use Rattle.groups.proofs.count_levels.Given as goal

-- The invariant: what is counted and the cells left make up the whole, level by level.
abbrev pub invariant-loop-x : goal.invariant-loop-x
invariant-loop-x l =
    (v : ℕ) → v < 4096
    → get_or l.counts v 0 + occurs (map level_of (drop l.x-index l.samples)) v ≡ occurs (map level_of l.samples) v
