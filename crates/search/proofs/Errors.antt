-- The error of a size is finite, as an f64 and as an f32: a group costs less than 2 ^ 37, and there are at most 8.
use mathlib.Core.Path.{◌≡◌, refl, sym, subst}
use mathlib.Core.Logic.{inl, inr}
use mathlib.Core.Bool.{false}
use mathlib.Core.List.{List}
use Prim.Native.Nat.{ℕ, zero, suc, ◌+◌, ◌-◌, ◌*◌, ◌^◌, ◌≤◌, ◌<◌, zero-le}
use native.Mathlib.Nat.{add-zero, suc-mul, le_refl, le_trans, mul-le-mul, mul-le-mul_left, mul-le-mul_right}
use native.Mathlib.Omega.{arith}
use lib.Dec.{lit≤, lit<}
use lib.Ieee.{Float, binary64, add, lt, of_bits}
use lib.Ieee.Back.{round_whole}
use Rattle.lists.proofs.Choice.{either_way}
use Rattle.ieee.specs.Bounds.{Under}
use Rattle.ieee.proofs.Numbers.{nat_is}
use Rattle.ieee.proofs.Bounds.{Rep, round_le, add_under, sub_under, under_lt, under_mono}
use Rattle.samples.specs.Narrow.{narrow_of}
use Rattle.groups.specs.declared.Best.{Best}
use Rattle.groups.specs.declared.Histogram.{Histogram}
use Rattle.groups.specs.Histogram.{IsHistogram}
use Rattle.groups.specs.Groups.{prefix_of, cost_of, first_of, cost_in, sum_in, error_of}
use Rattle.groups.proofs.Means.{weight, mean_below, cells_to, squares_to}
use Rattle.groups.proofs.Exact.{cost_rounded}
use Rattle.search.proofs.Narrow.{narrow_under}
use Rattle.search.proofs.Mild.{Mild, add_mild, cheaper_mild, cheaper_under}

-- the most that a sum of squares is, and the most that a group costs
abbrev squares : ℕ
squares = 4095 * 4095 * 4096

abbrev most : ℕ
most = squares + squares

square_le : (sum count : ℕ) → sum ≤ 4095 * count → count ≤ 4096 → sum * sum ≤ squares * count
square_le sum count mean cells =
    let most-square : 4095 * count * (4095 * count) ≤ squares * count =
    omega (arith, mul-le-mul_left (4095 * 4095 * count) cells) in
    le_trans (mul-le-mul mean mean) most-square

module _ (v : List ℕ) (h : Histogram) (is : IsHistogram v h) where
  abbrev cost_at : ℕ → ℕ → Float
  cost_at i j = cost_of (prefix_of h.w) (prefix_of h.s) (prefix_of h.q) i j

  cost_under : (i j : ℕ) → i < j → j ≤ h.n → Under (cost_at i j) most
  cost_under i j before last =
      let few : j ≤ 32 = le_trans last is.few in
      let count = sum_in h.w i j in
      let sum = sum_in h.s i j in
      let cells : count ≤ 4096 = omega (arith, cells_to v h is j few) in
      let most-squares : sum_in h.q i j ≤ squares = omega (arith, squares_to v h is j, cells_to v h is j few) in
      let mean : sum ≤ 4095 * count = mean_below v h is i j before last 4095 (λ t f g. is.top t) in
      let held = round_whole binary64 false squares (lit≤ tt) in
      rw (cost_rounded v h is i j before last, nat_is binary64 (sum_in h.q i j))
      (sub_under binary64 _ _ squares squares (round_le binary64 false _ 1 squares (lit< tt) (omega arith) held)
      (round_le binary64 false _ _ squares (weight v h is i j before last) (square_le sum count mean cells) held)
      (round_whole binary64 false most (lit≤ tt)))

  -- the cuts of the first j levels after k, where those before a cut cost at most A or cannot be had
  module _ (row : ℕ → Float) (k j A : ℕ) (last : j ≤ h.n) (mild : (i : ℕ) → i < j → Mild A (row i))
      (held : Rep binary64 (A + most)) where
    abbrev first : ℕ → Best
    first m = first_of (prefix_of h.w) (prefix_of h.s) (prefix_of h.q) row k j m

    candidate : (m : ℕ) → k + m < j → Mild (A + most) (add binary64 (row (k + m)) (cost_at (k + m) j))
    candidate m l =
        add_mild (row (k + m)) (cost_at (k + m) j) A most (mild (k + m) l) (cost_under (k + m) j l last) held

    first_mild : (m : ℕ) → m ≤ j - k → Mild (A + most) (first m).cost
    unfolding first_of
    first_mild zero l = inr refl
    first_mild (suc m) l =
        cheaper_mild (A + most) (first m) _ (k + m) (first_mild m (omega arith)) (candidate m (omega arith))

    -- finite as soon as the first of them is
    first_under : Under (row k) A → (m : ℕ) → suc m ≤ j - k → Under (first (suc m)).cost (A + most)
    unfolding first_of
    first_under u zero l =
        let o : k < j = omega arith in
        let c : Under (add binary64 (row (k + 0)) (cost_at (k + 0) j)) (A + most) =
        rw (add-zero k) (add_under binary64 (row k) (cost_at k j) A most u (cost_under k j o last) held) in
        rw (under_lt _ (A + most) c) c
    first_under u (suc m) l =
        cheaper_under (A + most) (first (suc m)) _ (k + suc m) (first_under u m (omega arith))
        (candidate (suc m) (omega arith))

  abbrev least_in : ℕ → ℕ → Float
  least_in k j = cost_in (prefix_of h.w) (prefix_of h.s) (prefix_of h.q) k j

  held_in_rep : (k : ℕ) → k < 8 → Rep binary64 (k * most + most)
  held_in_rep k l = round_whole binary64 false (k * most + most) (le_trans (fits k l) (lit≤ tt))
    where
      fits : (k : ℕ) → k < 8 → k * most + most ≤ 8 * most
      fits k l = omega arith

  programme_mild : (k j : ℕ) → k ≤ 8 → j ≤ h.n → Mild (k * most) (least_in k j)
  unfolding cost_in of_bits
  programme_mild zero zero l g = inl zero-le
  programme_mild zero (suc j) l g = inr refl
  programme_mild (suc k) j l g =
      rw (suc-mul k most)
      (first_mild (least_in k) k j (k * most) g (λ i o. programme_mild k i (omega arith) (omega arith)) (held_in_rep k l)
      (j - k) (le_refl (j - k)))

  -- one group more, where k levels in k groups cost a finite sum
  programme_next : (k j : ℕ) → k < 8 → k < j → j ≤ h.n → Under (least_in k k) (k * most)
      → Under (least_in (suc k) j) (suc k * most)
  unfolding cost_in
  programme_next k j l o g u =
      let e : j - k ≡ suc (j - suc k) = omega arith in
      let before : (i : ℕ) → i < j → Mild (k * most) (least_in k i) =
      λ i o. programme_mild k i (omega arith) (omega arith) in
      let held = held_in_rep k l in
      rw (suc-mul k most)
      (subst (λ m. Under (first (least_in k) k j (k * most) g before held m).cost (k * most + most)) (sym e)
      (first_under (least_in k) k j (k * most) g before held u (j - suc k) (omega arith)))

  programme_each : (k : ℕ) → k ≤ 8 → k ≤ h.n → Under (least_in k k) (k * most)
  unfolding cost_in of_bits
  programme_each zero l g = zero-le
  programme_each (suc k) l g =
      programme_next k (suc k) l (omega arith) g (programme_each k (omega arith) (omega arith))

  error_under : (k : ℕ) → 0 < k → k ≤ 8 → k ≤ h.n → Under (error_of h k) (k * most)
  unfolding of_bits
  error_under zero z l g = absurd (omega arith)
  error_under (suc k) z l g =
      let cost = least_in (suc k) h.n in
      either_way (λ x. Under x (suc k * most)) (lt (of_bits binary64 0) cost) cost (of_bits binary64 0)
      (programme_next k h.n l g (le_refl h.n) (programme_each k (omega arith) (omega arith))) zero-le

-- the error of a size, where the histogram has that many levels
pub error_narrow : (v : List ℕ) (h : Histogram) → IsHistogram v h → (k : ℕ) → 0 < k → k ≤ 8 → k ≤ h.n
    → Under (narrow_of (error_of h k)) (2 ^ 40)
error_narrow v h is k z l g =
    let groups = mul-le-mul_right most l in
    narrow_under (error_of h k) (8 * most)
    (under_mono (error_of h k) (k * most) (8 * most) groups (error_under v h is k z l g)) (lit< tt)
