-- Document 02, L9: how good are the groups? The exact sum of a cut, the least over all cuts of the levels into k groups in a row,
-- and how near the f64 error and the chosen cut come to it. This is about rounded levels, not samples.
use Rattle.std.specs.Prelude.{◌≡◌, false, List, [], ◌∷◌, ◌++◌, ℕ, ◌+◌, ◌-◌, ◌*◌, ◌≤◌, ◌<◌, length, take, drop, Float}
use Rattle.std.specs.Float.Ieee.Exact.{HasValue}
use Rattle.std.specs.Float.Ieee.Positive.{num, den}
use Rattle.groups.specs.declared.Histogram.{Histogram}
use Rattle.groups.specs.Histogram.{sum_to, IsHistogram}
use Rattle.groups.specs.Groups.{IsCut, sum_in, cut_of, error_of}

-- ---- cuts: `IsCut k j c` says that k groups of the first j levels start at c, the last group first
-- groups, the last one first, put together
unfoldable pub together : List (List ℕ) → List ℕ
together [] = []
together (g ∷ gs) = together gs ++ g

abbrev pub NoneEmpty : List (List ℕ) → Type 0
NoneEmpty [] = Unit {0}
NoneEmpty (g ∷ gs) = (0 < length g) × NoneEmpty gs

-- the levels xs in k groups in a row
pub record InARow (k : ℕ) (xs : List ℕ) (gs : List (List ℕ)) : Type 0 where
  pub count : length gs ≡ k
  pub filled : NoneEmpty gs
  pub whole : together gs ≡ xs

-- where the groups start, and the groups that start there
unfoldable pub starts_of : List (List ℕ) → List ℕ
starts_of [] = []
starts_of (g ∷ gs) = length (together gs) ∷ starts_of gs

unfoldable pub groups_by : List ℕ → List ℕ → List (List ℕ)
groups_by xs [] = []
groups_by xs (i ∷ cut) = drop i xs ∷ groups_by (take i xs) cut

-- `IsCut` is all cuts and nothing else: each k groups in a row are those of one cut, and each cut is that of such groups
pub record AllCuts (k : ℕ) (xs : List ℕ) : Type 0 where
  pub cuts : (gs : List (List ℕ)) → InARow k xs gs → IsCut k (length xs) (starts_of gs) × (groups_by xs (starts_of gs) ≡ gs)
  pub groups : (c : List ℕ) → IsCut k (length xs) c → InARow k xs (groups_by xs c) × (starts_of (groups_by xs c) ≡ c)

-- Proved in proofs/AllCuts.antt.
abbrev pub CutsAreAll : Type 0
CutsAreAll = (k : ℕ) (xs : List ℕ) → AllCuts k xs

-- ---- fractions of whole numbers
pub record Fraction : Type 0 where
  pub num : ℕ
  pub den : ℕ

abbrev pub plus : Fraction → Fraction → Fraction
plus a b = record { num = a.num * b.den + b.num * a.den; den = a.den * b.den }

-- a ≤ b
abbrev pub NotAbove : Fraction → Fraction → Type 0
NotAbove a b = a.num * b.den ≤ b.num * a.den

-- a ≤ b + 1 / m
abbrev pub AtMostBy : ℕ → Fraction → Fraction → Type 0
AtMostBy m a b = m * (a.num * b.den) ≤ m * (b.num * a.den) + a.den * b.den

-- a lies within 1 / m of b
abbrev pub Close : ℕ → Fraction → Fraction → Type 0
Close m a b = AtMostBy m a b × AtMostBy m b a

-- the value of a float, which is finite and not negative if it is plain
abbrev pub value_of : Float → Fraction
value_of x = record { num = num x; den = den x }

abbrev pub Plain : Float → Type 0
Plain x = HasValue x false (num x) (den x)

module _ (h : Histogram) where
  -- ---- exact sums
  -- q - s * s / w of the levels i .. j
  abbrev pub group_sum : ℕ → ℕ → Fraction
  group_sum i j = record {
    num = sum_in h.q i j * sum_in h.w i j - sum_in h.s i j * sum_in h.s i j;
    den = sum_in h.w i j;
  }

  -- added up over the groups of a cut of the first j levels
  unfoldable pub exact_sum : ℕ → List ℕ → Fraction
  exact_sum j [] = record { num = 0; den = 1 }
  exact_sum j (i ∷ cut) = plus (exact_sum i cut) (group_sum i j)

  -- m is one of the cuts S of the first j levels, and none of them has a smaller sum
  pub record LeastOf (S : List ℕ → Type 0) (j : ℕ) (m : List ℕ) : Type 0 where
    pub cut : S m
    pub least : (c : List ℕ) → S c → NotAbove (exact_sum j m) (exact_sum j c)

  -- of all cuts into k groups, not those visited
  abbrev pub Least : ℕ → List ℕ → Type 0
  Least k m = LeastOf (IsCut k h.n) h.n m

  -- the exact sums say what they seem to: no difference is cut off, no denominator is 0, there is a least cut, and no groups in
  -- a row, whatever the levels, have a smaller sum
  pub record Sound (k : ℕ) : Type 0 where
    pub rising : (xs : List ℕ) (i j : ℕ) → i ≤ j → sum_to xs i ≤ sum_to xs j
    pub whole : (i j : ℕ) → i < j → j ≤ h.n → sum_in h.s i j * sum_in h.s i j ≤ sum_in h.q i j * sum_in h.w i j
    pub proper : (c : List ℕ) → IsCut k h.n c → 0 < (exact_sum h.n c).den
    pub some : (m : List ℕ) × Least k m
    pub all : (m : List ℕ) → Least k m → (xs : List ℕ) → length xs ≡ h.n → (gs : List (List ℕ)) → InARow k xs gs
        → NotAbove (exact_sum h.n m) (exact_sum h.n (starts_of gs))

  -- ---- k groups with the f64 error x and the cut c
  pub record Quality (k : ℕ) (x : Float) (c : List ℕ) : Type 0 where
    pub sound : Sound k
    -- the error is within 1 / 4096 of the least sum
    pub plain : Plain x
    pub divides : 0 < den x
    pub error : (m : List ℕ) → Least k m → Close 4096 (value_of x) (exact_sum h.n m)
    -- the cut's own sum is within 1 / 2048 of it
    pub cut : IsCut k h.n c
    pub choice : (m : List ℕ) → Least k m → Close 2048 (exact_sum h.n c) (exact_sum h.n m)

  -- what the programme finds, for each k up to 8 and up to the number of levels
  abbrev pub GroupsAreGood : Type 0
  GroupsAreGood = (k : ℕ) → 1 ≤ k → k ≤ 8 → k ≤ h.n → Quality k (error_of h k) (cut_of h k)

-- Of the histogram of any block. Proved in proofs/Quality.antt.
abbrev pub AllGroupsAreGood : Type 0
AllGroupsAreGood = (v : List ℕ) (h : Histogram) → IsHistogram v h → GroupsAreGood h
