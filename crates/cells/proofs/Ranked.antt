-- The candidates of a cell by rank. Assumes nothing.
use Prim.Native.Nat.{ℕ, suc, ◌+◌, ◌≤◌, ◌<◌}
use mathlib.Core.Bool.{cond}
use mathlib.Core.Path.{◌≡◌, refl, sym, ap}
use mathlib.Core.List.{List, [], ◌∷◌}
use native.Mathlib.Omega.{arith}
use native.Mathlib.Numerals.{add-one}
use lib.Ieee.{Float, lt}
use lib.ListN.{length, get_or, drop, drop_of_length-le}
use lib.Seq.{drop-cons}
use Rattle.cells.specs.Cell.{cheapest, first_cheapest, pick_at, ranked, chosen}
use Rattle.cells.specs.declared.Pick.{Pick}
use Rattle.cells.proofs.Cheapest.{All, cheapest_holds}

abbrev pick_total : Pick → Float
pick_total p = p.total

abbrev cheapest_pick : Pick → List Pick → Pick
cheapest_pick p ps = cheapest pick_total p ps

module _ (dists rates : List Float) (lambda : Float) where
  abbrev pick : ℕ → ℕ → Pick
  pick rank i = pick_at dists rates lambda rank i

  abbrev picks : ℕ → List ℕ → List Pick
  picks rank is = ranked dists rates lambda rank is

  abbrev cheaper : Pick → Pick → Pick
  cheaper p q = cond (lt q.total p.total) q p

  -- ---- a chosen index is below n, and its rank below 8
  abbrev Inside : ℕ → Pick → Type 0
  Inside n p = (p.index < n) × (p.rank < 8)

  ranked_in : (n rank : ℕ) (is : List ℕ) → All (λ i. i < n) is → rank + length is ≤ 8 → All (Inside n) (picks rank is)
  unfolding ranked
  ranked_in n rank [] under few = tt
  ranked_in n rank (i ∷ is) under few = ((under.0, omega arith), ranked_in n (suc rank) is under.1 (omega arith))

  pub chosen_in : (n : ℕ) (is : List ℕ) → 0 < n → All (λ i. i < n) is → length is ≤ 8
      → ((chosen dists rates lambda is).index < n) × ((chosen dists rates lambda is).rank < 8)
  unfolding chosen first_cheapest ranked
  chosen_in n [] some under few = (some, omega arith)
  chosen_in n (i ∷ is) some under few =
      cheapest_holds (Inside n) pick_total (pick 0 i) (picks 1 is) (under.0, omega arith) (ranked_in n 1 is under.1 (omega arith))

  -- ---- one candidate after the other
  module _ (order : List ℕ) where
    pub picked_first : 0 < length order → cheapest_pick (pick 0 (get_or order 0 0)) (picks 1 (drop 1 order)) ≡ chosen dists rates lambda order
    unfolding chosen first_cheapest ranked
    picked_first h =
        ap (λ (is : List ℕ). first_cheapest pick_total (pick 0 0) (picks 0 is)) (sym (drop-cons order 0 0 h))

    pub picked_next : (q : ℕ) (p : Pick) → q < length order
        → cheapest_pick p (picks q (drop q order)) ≡ cheapest_pick (cheaper p (pick q (get_or order q 0))) (picks (q + 1) (drop (q + 1) order))
    unfolding ranked cheapest
    picked_next q p h = rw (drop-cons order q 0 h, add-one) refl

    pub picked_last : (q : ℕ) (p : Pick) → length order ≤ q → cheapest_pick p (picks q (drop q order)) ≡ p
    unfolding ranked cheapest
    picked_last q p h = rw (drop_of_length-le order {i = q} h) refl
