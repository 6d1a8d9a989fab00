-- The cut of the levels into groups: a dynamic programme on f64 values, operations in the Rust's order. The groups' colours.
use Rattle.std.specs.Prelude.{◌≡◌, false, cond, List, [], ◌∷◌, ◌++◌, ℕ, zero, suc, ◌+◌, ◌-◌, ◌*◌, ◌/◌, ◌<◌, get_or, replicate, Float}
use Rattle.std.specs.Float.{inf, nan, binary64}
use Rattle.std.specs.Float.Ieee.{add, sub, mul, div, lt, of_bits}
use Rattle.lists.specs.Written.{written}
use Rattle.ieee.specs.Numbers.{nat}
use Rattle.groups.specs.declared.Best.{Best}
use Rattle.groups.specs.declared.Groups.{Groups}
use Rattle.groups.specs.declared.Histogram.{Histogram}
use Rattle.groups.specs.Histogram.{sum_to}

-- ---- the cost of a group: the levels i .. j are those from i on and before j
-- the sums of the first 0, 1, .. numbers, added up in f64
unfoldable pub sums_from : Float → List ℕ → List Float
sums_from t [] = t ∷ []
sums_from t (x ∷ xs) = t ∷ sums_from (add binary64 t (nat binary64 x)) xs

abbrev pub prefix_of : List ℕ → List Float
prefix_of xs = sums_from (of_bits binary64 0) xs

-- a prefix sum less another
abbrev pub between : List Float → ℕ → ℕ → Float
between p i j = sub binary64 (get_or p j nan) (get_or p i nan)

module _ (pw ps pq : List Float) where
  -- of the levels i .. j: q - s * s / w
  abbrev pub cost_of : ℕ → ℕ → Float
  cost_of i j = sub binary64 (between pq i j) (div binary64 (mul binary64 (between ps i j) (between ps i j)) (between pw i j))

-- ---- the programme
-- what stands, b, or the later cut at i: that only if it is strictly cheaper
abbrev pub cheaper : Best → Float → ℕ → Best
cheaper b c i = cond (lt c b.cost) (record { cost = c; cut = i }) b

module _ (pw ps pq : List Float) where
  -- the first j levels: of the m cuts k, k + 1, .. the first of the cheapest; row has the cost of the levels before a cut
  unfoldable pub first_of : (ℕ → Float) → ℕ → ℕ → ℕ → Best
  first_of row k j zero = record { cost = inf false; cut = k }
  first_of row k j (suc m) = cheaper (first_of row k j m) (add binary64 (row (k + m)) (cost_of pw ps pq (k + m) j)) (k + m)

  abbrev pub best_of : (ℕ → Float) → ℕ → ℕ → Best
  best_of row k j = first_of row k j (j - k)

  -- the least cost of the first j levels in k groups
  unfoldable pub cost_in : ℕ → ℕ → Float
  cost_in zero zero = of_bits binary64 0
  cost_in zero (suc j) = inf false
  cost_in (suc k) j = (best_of (cost_in k) k j).cost

  -- where the last of k + 1 groups of the first j levels starts
  abbrev pub cut_in : ℕ → ℕ → ℕ
  cut_in k j = (best_of (cost_in k) k j).cut

  -- where k groups of the first j levels start, the last group first
  unfoldable pub chosen : ℕ → ℕ → List ℕ
  chosen zero j = []
  chosen (suc k) j = cut_in k j ∷ chosen k (cut_in k j)

-- x, or 0.0 where x is not above it
abbrev pub floored : Float → Float
floored x = cond (lt (of_bits binary64 0) x) x (of_bits binary64 0)

-- ---- cuts
-- a cut of the first j levels into k groups, by where they start, the last group first
abbrev pub IsCut : ℕ → ℕ → List ℕ → Type 0
IsCut zero j [] = j ≡ 0
IsCut zero j (i ∷ cut) = ⊥
IsCut (suc k) j [] = ⊥
IsCut (suc k) j (i ∷ cut) = (i < j) × IsCut k i cut

-- ---- colours
-- the sum of the numbers i .. j
abbrev pub sum_in : List ℕ → ℕ → ℕ → ℕ
sum_in xs i j = sum_to xs j - sum_to xs i

module _ (w s : List ℕ) where
  -- of the levels i .. j: the whole part of (2 s + w) / (2 w)
  abbrev pub color_of : ℕ → ℕ → ℕ
  color_of i j = (2 * sum_in s i j + sum_in w i j) / (2 * sum_in w i j)

  -- of each group of a cut of the first j levels, the first group first
  unfoldable pub colors_of : ℕ → List ℕ → List ℕ
  colors_of j [] = []
  colors_of j (i ∷ cut) = colors_of i cut ++ (color_of i j ∷ [])

-- ---- a histogram's levels in k groups
module _ (h : Histogram) where
  abbrev pub cost_to : ℕ → ℕ → Float
  cost_to k j = cost_in (prefix_of h.w) (prefix_of h.s) (prefix_of h.q) k j

  abbrev pub cut_to : ℕ → ℕ → ℕ
  cut_to k j = cut_in (prefix_of h.w) (prefix_of h.s) (prefix_of h.q) k j

  abbrev pub cut_of : ℕ → List ℕ
  cut_of k = chosen (prefix_of h.w) (prefix_of h.s) (prefix_of h.q) k h.n

  abbrev pub error_of : ℕ → Float
  error_of k = floored (cost_to k h.n)

  abbrev pub centers_of : ℕ → List ℕ
  centers_of k = colors_of h.w h.s h.n (cut_of k)

  abbrev pub groups_of : ℕ → Groups
  groups_of k = record { colors = written (replicate 8 0) 0 (centers_of k); error = error_of k }
