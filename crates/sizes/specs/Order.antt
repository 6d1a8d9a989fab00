-- Document 01, 'Sizes': which sizes there are, and their order.
use Rattle.std.specs.Prelude.{◌≡◌, ◌⊎◌, Bool, true, cond, not, List, [], ◌∷◌, ℕ, zero, suc, ◌<◌, eqb, leb, length, Float, Option, None, Some}
use Rattle.std.specs.Float.Ieee.{lt, eq}
use Rattle.lists.specs.Counted.{elem}
use Rattle.cells.specs.Cell.{cheapest}

-- the first of the cheapest, where there is one
abbrev pub next_in : (ℕ → Float) → List ℕ → Option ℕ
next_in lb [] = None
next_in lb (k ∷ ks) = Some (cheapest lb k ks)

-- those that pass the test, in their order
unfoldable pub those : (ℕ → Bool) → List ℕ → List ℕ
those f [] = []
those f (k ∷ ks) = cond (f k) (k ∷ those f ks) (those f ks)

abbrev pub all_sizes : List ℕ
all_sizes = 2 ∷ 3 ∷ 4 ∷ 5 ∷ 6 ∷ 7 ∷ 8 ∷ []

-- from 2 to the lesser of 8 and the number of levels
abbrev pub sizes_to : ℕ → List ℕ
sizes_to levels = those (λ k. leb k levels) all_sizes

module _ (lb : ℕ → Float) where
  -- the first m of the sizes, by ascending lb, ties by fewer colours: the first of the cheapest, then the others likewise
  unfoldable pub ordered : ℕ → List ℕ → List ℕ
  ordered zero ks = []
  ordered (suc m) [] = []
  ordered (suc m) (k ∷ ks) =
      let first = cheapest lb k ks in
      first ∷ ordered m (those (λ j. not (eqb j first)) (k ∷ ks))

  -- all of them
  abbrev pub in_order : List ℕ → List ℕ
  in_order ks = ordered (length ks) ks

  -- one size goes before another: its lb is smaller, or on a tie it has fewer colours
  abbrev pub Before : ℕ → ℕ → Type 0
  Before j k = (lt (lb j) (lb k) ≡ true) ⊎ ((eq (lb j) (lb k) ≡ true) × (j < k))

  -- each goes before all that follow it, so none stands twice
  unfoldable pub Sorted : List ℕ → Type 0
  Sorted [] = Unit {0}
  Sorted (k ∷ ks) = ((j : ℕ) → elem j ks ≡ true → Before k j) × Sorted ks

  -- what is sorted holds these sizes and no others
  pub record Sorts (ks sorted : List ℕ) : Type 0 where
    pub same : (k : ℕ) → elem k sorted ≡ elem k ks
    pub order : Sorted sorted
