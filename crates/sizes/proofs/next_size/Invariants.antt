use mathlib.Core.Path.{◌≡◌}
use mathlib.Core.Bool.{false}
use Prim.Native.Nat.{ℕ, ◌<◌}
use lib.ListN.{get_or}
use lib.Ieee.{nan}
use Rattle.std.specs.Option.{IfSome}
use Rattle.sizes.specs.Order.{those, next_in, all_sizes}
use Rattle.sizes.proofs.Turns.{from, found}
use Rattle.sizes.proofs.next_size.Given as goal

-- The invariant: the best so far and the sizes left give the whole.
abbrev pub invariant-loop-k : goal.invariant-loop-k
invariant-loop-k l =
    (found (λ (j : ℕ). get_or l.lbs j nan) l.best (those (λ (j : ℕ). get_or l.open j false) (from l.k))
    ≡ next_in (λ (j : ℕ). get_or l.lbs j nan) (those (λ (j : ℕ). get_or l.open j false) all_sizes))
    × IfSome l.best (λ j. j < 9)
