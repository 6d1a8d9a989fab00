-- One turn of each loop, and its end.
use Rattle.std.proofs.Common.{Option, None, Some}
use mathlib.Core.Path.{◌≡◌, refl, ◌∙◌}
use mathlib.Core.Bool.{Bool, true, false, cond}
use mathlib.Core.List.{List, [], ◌∷◌}
use Prim.Native.Nat.{ℕ, suc, ◌+◌, ◌-◌, ◌≤◌, ◌<◌}
use native.Mathlib.Numerals.{add-one}
use native.Mathlib.Omega.{arith}
use lib.Dec.{eqb}
use lib.ListN.{length, get_or, set, drop, drop_of_length-le}
use lib.Seq.{drop-cons, get_or-set_same, get_or-set_other}
use lib.Ieee.{Float, nan, lt}
use borrow.Author.Count.{below_more}
use borrow.Author.Tests.{eqb-true}
use Rattle.lists.specs.Counted.{all_below}
use Rattle.lists.proofs.Counted.{all_below_at}
use Rattle.cells.specs.Cell.{cheapest}
use Rattle.sizes.specs.Sizes.{least_of}
use Rattle.sizes.specs.Order.{those, next_in, all_sizes}

-- ---- the least of a list
pub least_turn : (xs : List Float) (i : ℕ) (least now : Float) → i < length xs
    → now ≡ cond (lt (get_or xs i nan) least) (get_or xs i nan) least
    → least_of now (drop (i + 1) xs) ≡ least_of least (drop i xs)
unfolding least_of
least_turn xs i least now h e = rw (drop-cons xs i nan h, add-one, e) refl

pub least_done : (xs : List Float) (i : ℕ) (least : Float) → length xs ≤ i → least_of least (drop i xs) ≡ least
unfolding least_of
least_done xs i least h = rw (drop_of_length-le xs {i = i} h) refl

-- ---- the first of the cheapest
-- the sizes from k on
abbrev pub from : ℕ → List ℕ
from k = drop (k - 2) all_sizes

-- place i holds i + 2
abbrev placed : ℕ → Bool
placed i = eqb (get_or all_sizes i 0) (i + 2)

all_placed : all_below placed 7 ≡ true
unfolding all_below
all_placed = refl

pub from_next : (k : ℕ) → 2 ≤ k → k < 9 → from k ≡ k ∷ from (k + 1)
from_next k l h =
    let e : suc (k - 2) ≡ k + 1 - 2 = omega arith in
    let passed : placed (k - 2) ≡ true = all_below_at placed 7 all_placed (k - 2) (omega arith) in
    let at : get_or all_sizes (k - 2) 0 ≡ k = omega (arith, eqb-true (get_or all_sizes (k - 2) 0) (k - 2 + 2) passed) in
    rw (drop-cons all_sizes (k - 2) 0 (omega arith), e, at) refl

module _ (cost : ℕ → Float) where
  -- what is found with `best` so far, and these to come
  abbrev pub found : Option ℕ → List ℕ → Option ℕ
  found None ks = next_in cost ks
  found (Some best) ks = Some (cheapest cost best ks)

  pub found_none : (best : Option ℕ) → found best [] ≡ best
  unfolding cheapest
  found_none None = refl
  found_none (Some best) = refl

  -- whether an open size k takes the place of `best`
  abbrev pub leads : Option ℕ → ℕ → Bool
  leads None k = true
  leads (Some best) k = lt (cost k) (cost best)

  found_taken : (best : Option ℕ) (k : ℕ) (ks : List ℕ)
      → found (cond (leads best k) (Some k) best) ks ≡ found best (k ∷ ks)
  unfolding cheapest
  found_taken None k ks = refl
  found_taken (Some best) k ks = go (lt (cost k) (cost best))
    where
      go : (t : Bool) → found (cond t (Some k) (Some best)) ks ≡ Some (cheapest cost (cond t k best) ks)
      go true = refl
      go false = refl

  module _ (test : ℕ → Bool) where
    abbrev pub step : Option ℕ → ℕ → Option ℕ
    step best k = cond (test k) (cond (leads best k) (Some k) best) best

    pub next_turn : (best : Option ℕ) (k : ℕ) (now : Option ℕ) → 2 ≤ k → k < 9 → now ≡ step best k
        → found now (those test (from (k + 1))) ≡ found best (those test (from k))
    unfolding those
    next_turn best k now l h e = rw (from_next k l h, e) (go (test k))
      where
        go : (t : Bool) → found (cond t (cond (leads best k) (Some k) best) best) (those test (from (k + 1)))
            ≡ found best (cond t (k ∷ those test (from (k + 1))) (those test (from (k + 1))))
        go true = found_taken best k (those test (from (k + 1)))
        go false = refl

-- ---- each size's value at its place
pub placed_turn : (value : ℕ → Float) (values : List Float) (k : ℕ) (x : Float) → k < length values → x ≡ value k
    → ((j : ℕ) → j < k → 2 ≤ j → get_or values j nan ≡ value j)
    → (j : ℕ) → j < k + 1 → 2 ≤ j → get_or (set values k x) j nan ≡ value j
placed_turn value values k x fits e before =
    below_more (λ j. 2 ≤ j → get_or (set values k x) j nan ≡ value j) k
    (λ j l m. get_or-set_other values k j x nan (λ same. omega arith) ∙ before j l m)
    (λ m. get_or-set_same values k x nan fits ∙ e)
