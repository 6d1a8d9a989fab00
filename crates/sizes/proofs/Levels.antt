-- The sizes: each from 2 to 8, and at most the number of levels; so are those in the order.
use mathlib.Core.Path.{◌≡◌, refl}
use mathlib.Core.Bool.{Bool, true}
use mathlib.Core.List.{List, [], ◌∷◌}
use Prim.Native.Nat.{ℕ, ◌≤◌, ◌<◌}
use native.Mathlib.Omega.{arith}
use lib.Dec.{leb}
use lib.ListN.{length}
use lib.Ieee.{Float}
use borrow.Author.Tests.{leb-true, le-leb}
use Rattle.lists.specs.Counted.{all_in, within}
use Rattle.lists.proofs.Choice.{and_l, and_r}
use Rattle.groups.proofs.Each.{Each, each_weaken}
use Rattle.cells.specs.Cell.{cheapest}
use Rattle.sizes.specs.Order.{those, all_sizes, sizes_to, ordered, in_order}
use Rattle.sizes.proofs.Those.{those_pass, without}
use Rattle.sizes.proofs.Order.{ordered_same, ordered_each}

abbrev pub InSizes : ℕ → Type 0
InSizes k = (2 ≤ k) × (k ≤ 8)

pub all_sizes_holds : Each InSizes all_sizes
unfolding all_in
all_sizes_holds =
    each_weaken (λ k. within 2 8 k ≡ true) InSizes all_sizes
    (λ k p. (leb-true 2 k (and_l (leb 2 k) (leb k 8) p), leb-true k 8 (and_r (leb 2 k) (leb k 8) p)))
    (each_of (within 2 8) all_sizes refl)
  where
    each_of : (f : ℕ → Bool) (ks : List ℕ) → all_in f ks ≡ true → Each (λ k. f k ≡ true) ks
    each_of f [] e = tt
    each_of f (k ∷ ks) e = (and_l (f k) (all_in f ks) e, each_of f ks (and_r (f k) (all_in f ks) e))

abbrev pub SizeTo : ℕ → ℕ → Type 0
SizeTo levels k = (2 ≤ k) × (k ≤ 8) × (k ≤ levels)

pub sizes_each : (levels : ℕ) → Each (SizeTo levels) (sizes_to levels)
sizes_each levels =
    each_weaken (λ k. (leb k levels ≡ true) × InSizes k) (SizeTo levels) (sizes_to levels)
    (λ k p. (p.1.0, p.1.1, leb-true k levels p.0)) (those_pass (λ k. leb k levels) InSizes all_sizes all_sizes_holds)

pub order_each : (levels : ℕ) (f : ℕ → Float) → Each (SizeTo levels) (in_order f (sizes_to levels))
order_each levels f = ordered_each (SizeTo levels) f (length (sizes_to levels)) (sizes_to levels) (sizes_each levels)

pub order_same : (levels : ℕ) (f g : ℕ → Float) → ((k : ℕ) → 2 ≤ k → k ≤ 8 → k ≤ levels → f k ≡ g k)
    → in_order f (sizes_to levels) ≡ in_order g (sizes_to levels)
order_same levels f g agree =
    let same : (k : ℕ) → SizeTo levels k → f k ≡ g k = λ k p. agree k p.0 p.1 p.2 in
    ordered_same (SizeTo levels) f g same (length (sizes_to levels)) (sizes_to levels) (sizes_each levels)

-- with two levels or more there is a first size
sizes_some : (levels : ℕ) → 2 ≤ levels → 0 < length (sizes_to levels)
unfolding those
sizes_some levels two = rw (le-leb 2 levels two) (omega arith)

pub order_some : (levels : ℕ) (f : ℕ → Float) → 2 ≤ levels
    → (k : ℕ) × (rest : List ℕ) × (in_order f (sizes_to levels) ≡ k ∷ rest)
unfolding ordered
order_some levels f two = go (sizes_to levels) (sizes_some levels two)
  where
    go : (ks : List ℕ) → 0 < length ks → (k : ℕ) × (rest : List ℕ) × (in_order f ks ≡ k ∷ rest)
    go [] some = absurd (omega arith)
    go (k ∷ ks) some = (cheapest f k ks, ordered f (length ks) (without (cheapest f k ks) (k ∷ ks)), refl)
