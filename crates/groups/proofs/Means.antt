-- A group of levels: its sum lies between its count times its least and its greatest level, so its colour lies within.
use mathlib.Core.Path.{◌≡◌}
use mathlib.Core.Logic.{⊎_elim}
use mathlib.Core.List.{List}
use Prim.Native.Nat.{ℕ, zero, suc, ◌+◌, ◌-◌, ◌*◌, ◌^◌, ◌≤◌, ◌<◌, zero-le}
use native.Mathlib.Nat.{add-zero, add-suc, le_trans, le_of_lt, eq-or-lt_of_le, le_of_suc-le-suc}
use native.Mathlib.Nat.{mul-le-mul_left, mul-le-mul, mul-pos, zero-lt-suc, le-div_iff_mul-le}
use native.Mathlib.Numerals.{add-one}
use native.Mathlib.Omega.{arith}
use lib.Dec.{lit≤}
use lib.ListN.{get_or}
use Rattle.samples.proofs.Ranges.{rounded_le}
use Rattle.groups.specs.declared.Histogram.{Histogram}
use Rattle.groups.specs.Histogram.{sum_to, IsHistogram}
use Rattle.groups.specs.Groups.{sum_in, color_of}
use Rattle.groups.proofs.Sums.{sum_mono, sum_next}

module _ (v : List ℕ) (h : Histogram) (is : IsHistogram v h) where
  -- m levels from i on, none below x; and none above it
  above : (x i m : ℕ) → ((t : ℕ) → t < m → x ≤ get_or v (i + t) 0)
      → x * sum_to h.w (i + m) + sum_to h.s i ≤ sum_to h.s (i + m) + x * sum_to h.w i
  unfolding sum_to
  above x i zero f = rw (add-zero i) (omega arith)
  above x i (suc m) f =
      let a = above x i m (λ t l. f t (omega arith)) in
      rw (add-suc i m) (omega (arith, a, is.sums (i + m), mul-le-mul_left (get_or h.w (i + m) 0) (f m (omega arith))))

  below : (x i m : ℕ) → ((t : ℕ) → t < m → get_or v (i + t) 0 ≤ x)
      → sum_to h.s (i + m) + x * sum_to h.w i ≤ x * sum_to h.w (i + m) + sum_to h.s i
  unfolding sum_to
  below x i zero f = rw (add-zero i) (omega arith)
  below x i (suc m) f =
      let a = below x i m (λ t l. f t (omega arith)) in
      rw (add-suc i m) (omega (arith, a, is.sums (i + m), mul-le-mul_left (get_or h.w (i + m) 0) (f m (omega arith))))

  -- the levels ascend
  pub levels_rise : (i t : ℕ) → i < t → t < h.n → get_or v i 0 < get_or v t 0
  levels_rise i zero a b = absurd (omega arith)
  levels_rise i (suc t) a b =
      let less : i < t → get_or v i 0 < get_or v t 0 = λ l. levels_rise i t l (omega arith) in
      let next : get_or v t 0 < get_or v (suc t) 0 = rw add-one at (is.rising t (omega arith)) in
      ⊎_elim (λ e. rw e next) (λ l. omega (arith, less l)) (eq-or-lt_of_le (le_of_suc-le-suc a))

  -- no level is seen without a cell
  module _ (i j : ℕ) (order : i < j) (last : j ≤ h.n) where
    pub weight : 0 < sum_in h.w i j
    weight = omega (arith, sum_next h.w i, sum_mono h.w (i + 1) j (omega arith), is.seen i (omega arith))

    mean_above : (x : ℕ) → ((t : ℕ) → i ≤ t → t < j → x ≤ get_or v t 0) → x * sum_in h.w i j ≤ sum_in h.s i j
    mean_above x f =
        let e : i + (j - i) ≡ j = omega arith in
        let W : sum_to h.w j ≡ sum_to h.w i + sum_in h.w i j = omega (arith, sum_mono h.w i j (omega arith)) in
        let a = rw e at (above x i (j - i) (λ t l. f (i + t) (omega arith) (omega arith))) in
        omega (arith, rw W at a, sum_mono h.s i j (omega arith))

    pub mean_below : (x : ℕ) → ((t : ℕ) → i ≤ t → t < j → get_or v t 0 ≤ x) → sum_in h.s i j ≤ x * sum_in h.w i j
    mean_below x f =
        let e : i + (j - i) ≡ j = omega arith in
        let W : sum_to h.w j ≡ sum_to h.w i + sum_in h.w i j = omega (arith, sum_mono h.w i j (omega arith)) in
        let a = rw e at (below x i (j - i) (λ t l. f (i + t) (omega arith) (omega arith))) in
        omega (arith, rw W at a, sum_mono h.s i j (omega arith))

    -- the colour lies within the group
    pub color_from : get_or v i 0 ≤ color_of h.w h.s i j
    color_from =
        let least : (t : ℕ) → i ≤ t → t < j → get_or v i 0 ≤ get_or v t 0 =
        λ t a b. ⊎_elim (λ e. rw e (omega arith)) (λ l. le_of_lt (levels_rise i t l (omega arith))) (eq-or-lt_of_le a) in
        (le-div_iff_mul-le (mul-pos (zero-lt-suc 1) weight)).1 (omega (arith, mean_above (get_or v i 0) least))

    pub color_to : (x : ℕ) → ((t : ℕ) → i ≤ t → t < j → get_or v t 0 ≤ x) → color_of h.w h.s i j ≤ x
    color_to x f = rounded_le (sum_in h.s i j) (sum_in h.w i j) x weight (mean_below x f)

  -- ---- what the code asks
  pub cells_to : (j : ℕ) → j ≤ 32 → sum_to h.w j ≤ 4096
  cells_to j l = le_trans (sum_mono h.w j 32 l) is.cells

  -- the sums of the first k levels
  pub sums_to : (k : ℕ) → sum_to h.s k ≤ 4095 * sum_to h.w k
  unfolding sum_to
  sums_to zero = zero-le
  sums_to (suc k) = omega (arith, sums_to k, is.sums k, mul-le-mul_left (get_or h.w k 0) (is.top k))

  pub squares_to : (k : ℕ) → sum_to h.q k ≤ 4095 * 4095 * sum_to h.w k
  unfolding sum_to
  squares_to zero = zero-le
  squares_to (suc k) =
      omega (arith, squares_to k, is.squares k, mul-le-mul_left (get_or h.w k 0) (mul-le-mul (is.top k) (is.top k)))

  -- each count, sum and sum of squares is a number that f64 holds
  count_le : (i : ℕ) → i < 32 → get_or h.w i 0 ≤ 4096
  count_le i l = omega (arith, sum_next h.w i, cells_to (i + 1) (omega arith))

  pub counts_fit : (i : ℕ) → i < 32 → get_or h.w i 0 ≤ 2 ^ 53
  counts_fit i l = le_trans (count_le i l) (lit≤ tt)

  pub sums_fit : (i : ℕ) → i < 32 → get_or h.s i 0 ≤ 2 ^ 53
  sums_fit i l = rw (is.sums i) (le_trans (mul-le-mul (count_le i l) (is.top i)) (lit≤ tt))

  pub squares_fit : (i : ℕ) → i < 32 → get_or h.q i 0 ≤ 2 ^ 53
  squares_fit i l =
      rw (is.squares i) (le_trans (mul-le-mul (count_le i l) (mul-le-mul (is.top i) (is.top i))) (lit≤ tt))
