use mathlib.Core.Path.{◌≡◌}
use Prim.Native.Nat.{◌≤◌}
use lib.ListN.{get_or}
use Rattle.groups.specs.Histogram.{gathered}
use Rattle.groups.proofs.gather.Given as goal

-- The invariant: the histogram of the levels below v.
abbrev pub invariant-loop-v : goal.invariant-loop-v
invariant-loop-v l =
    (l.n ≤ l.v) × (record { n = l.n; w = l.w; s = l.s; q = l.q } ≡ gathered (λ x. get_or l.counts x 0) l.v)
