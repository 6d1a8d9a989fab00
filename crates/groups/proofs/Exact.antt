-- The prefix sums are exact, so a group's cost has one rounded division and one rounded subtraction.
use mathlib.Core.Path.{◌≡◌, refl}
use mathlib.Core.Bool.{false}
use mathlib.Core.List.{List}
use Prim.Native.Nat.{ℕ, ◌*◌, ◌^◌, ◌≤◌, ◌<◌}
use native.Mathlib.Nat.{le_trans, mul-le-mul}
use native.Mathlib.Omega.{arith}
use lib.Dec.{lit≤}
use lib.ListN.{get_or}
use lib.Ieee.{Float, nan, binary64, sub, round}
use Rattle.ieee.specs.Numbers.{nat}
use Rattle.ieee.proofs.Numbers.{nat_sub, nat_mul, nat_div}
use Rattle.groups.specs.declared.Histogram.{Histogram}
use Rattle.groups.specs.Histogram.{sum_to, IsHistogram}
use Rattle.groups.specs.Groups.{prefix_of, between, cost_of, sum_in}
use Rattle.groups.proofs.Sums.{sum_mono, prefix_exact}
use Rattle.groups.proofs.Means.{weight, cells_to, sums_to, squares_to}

-- each prefix sum is the float of the exact sum
pub record Prefixes (h : Histogram) : Type 0 where
  pub counts : (k : ℕ) → k ≤ 32 → get_or (prefix_of h.w) k nan ≡ nat binary64 (sum_to h.w k)
  pub sums : (k : ℕ) → k ≤ 32 → get_or (prefix_of h.s) k nan ≡ nat binary64 (sum_to h.s k)
  pub squares : (k : ℕ) → k ≤ 32 → get_or (prefix_of h.q) k nan ≡ nat binary64 (sum_to h.q k)

-- the difference of two of them is exact too
difference : (p : List Float) (xs : List ℕ) (i j : ℕ)
    → ((k : ℕ) → k ≤ 32 → get_or p k nan ≡ nat binary64 (sum_to xs k)) → i ≤ j → j ≤ 32 → sum_to xs j ≤ 2 ^ 53
    → between p i j ≡ nat binary64 (sum_in xs i j)
difference p xs i j e o l b =
    let m = sum_mono xs i j o in
    rw (e i (omega arith), e j l) (nat_sub binary64 (sum_to xs j) (sum_to xs i) b (le_trans m b) m)

module _ (v : List ℕ) (h : Histogram) (is : IsHistogram v h) where
  sum_small : (k : ℕ) → k ≤ 32 → sum_to h.s k ≤ 4095 * 4096
  sum_small k l = omega (arith, sums_to v h is k, cells_to v h is k l)

  square_small : (k : ℕ) → k ≤ 32 → sum_to h.q k ≤ 4095 * 4095 * 4096
  square_small k l = omega (arith, squares_to v h is k, cells_to v h is k l)

  pub prefixes : Prefixes h
  prefixes = record {
    counts = (λ k l. prefix_exact h.w k (omega (arith, is.full.0)) (le_trans (cells_to v h is k l) (lit≤ tt)));
    sums = (λ k l. prefix_exact h.s k (omega (arith, is.full.1)) (le_trans (sum_small k l) (lit≤ tt)));
    squares = (λ k l. prefix_exact h.q k (omega (arith, is.full.2)) (le_trans (square_small k l) (lit≤ tt)));
  }

  -- q - s * s / w, where only the quotient and the difference are rounded
  pub cost_rounded : (i j : ℕ) → i < j → j ≤ h.n
      → cost_of (prefix_of h.w) (prefix_of h.s) (prefix_of h.q) i j
      ≡ sub binary64 (nat binary64 (sum_in h.q i j))
      (round binary64 false (sum_in h.s i j * sum_in h.s i j) (sum_in h.w i j))
  cost_rounded i j o l =
      let b : j ≤ 32 = le_trans l is.few in
      let o' : i ≤ j = omega arith in
      let W : sum_in h.w i j ≤ 4096 = omega (arith, cells_to v h is j b) in
      let S : sum_in h.s i j ≤ 4095 * 4096 = omega (arith, sum_small j b) in
      let s : sum_in h.s i j ≤ 2 ^ 53 = le_trans S (lit≤ tt) in
      rw (
        difference (prefix_of h.w) h.w i j prefixes.counts o' b (le_trans (cells_to v h is j b) (lit≤ tt)),
        difference (prefix_of h.s) h.s i j prefixes.sums o' b (le_trans (sum_small j b) (lit≤ tt)),
        difference (prefix_of h.q) h.q i j prefixes.squares o' b (le_trans (square_small j b) (lit≤ tt)),
        nat_mul binary64 (sum_in h.s i j) (sum_in h.s i j) s s,
        nat_div binary64 (sum_in h.s i j * sum_in h.s i j) (sum_in h.w i j) (le_trans (mul-le-mul S S) (lit≤ tt))
            (le_trans W (lit≤ tt)) (weight v h is i j o l),
      ) refl
