use mathlib.Core.Path.{◌≡◌}
use Prim.Native.Nat.{ℕ, ◌+◌, ◌<◌}
use lib.ListN.{length, get_or}
use lib.Ieee.{nan}
use Rattle.groups.specs.Groups.{prefix_of}
use Rattle.groups.proofs.prefix.Given as goal

-- The invariant: the sums up to i stand in their places.
abbrev pub invariant-loop-i : goal.invariant-loop-i
invariant-loop-i l =
    (length l.out ≡ 33) × ((k : ℕ) → k < l.i + 1 → get_or l.out k nan ≡ get_or (prefix_of l.xs) k nan)
