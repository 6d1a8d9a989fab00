-- Half-even rounding: `closest`, the nearest whole number of n / u, from the whole part of the doubled quotient 2n / u;
-- and a fraction rounds in binary32 as the number does that its rounding keeps.
use mathlib.Core.Path.{◌≡◌, refl, sym, ap, ◌∙◌}
use mathlib.Core.Bool.{false, cond}
use mathlib.Core.Logic.{◌⊎◌, inl, inr}
use Prim.Native.Nat.{ℕ, suc, ◌+◌, ◌-◌, ◌*◌, ◌/◌, ◌%◌, ◌^◌, ◌≤◌, ◌<◌, zero-le, compare, Ordering}
use native.Mathlib.Nat.{mul_assoc, mul_comm, mul-pos, one-mul, zero-mul, zero-lt-suc, le_trans, le_of_lt, le_refl}
use native.Mathlib.Nat.{lt_of_not-le, mul-le-mul_right, mul-div_cancel, mul-mod_left, lt-div-mul-add, div-mul-le_self}
use native.Mathlib.Nat.{mul-div-mul_left, add_assoc, div-add-mod', eq-or-lt_of_le, le-div_iff_mul-le}
use native.Mathlib.Nat.{div-div-eq-div-mul}
use native.Mathlib.Numerals.{add-one}
use native.Mathlib.Omega.{arith}
use lib.Dec.{ltb, leb, eqb, is_le, compare_is_eq, lit<}
use lib.Arith.{lt_of_le-ne}
use lib.Pow.{pow-add, pow_pos, pow_mono, shl_lt, shr_lt}
use lib.Ieee.{fin, inf, minus, binary32, emax, low, size, nearest, odd, units, round}
use lib.Ieee.Digits.{size-lt, size-le}
use lib.Ieee.Fits.{core, round_is, nearest-le}
use lib.Ieee.Nearest.{closest, nearest-ge}
use borrow.Author.Tests.{le-leb, lt-leb, eq-eqb, ne_eqb}

-- ---- `closest`
pub closest_is : (n u : ℕ)
    → closest n u ≡ cond (eqb (n % u * 2) u) (n / u + n / u % 2) (cond (leb (n % u * 2) u) (n / u) (suc (n / u)))
closest_is n u = go (compare (n % u * 2) u)
  where
    go : (o : Ordering) → nearest (n / u) o ≡ cond (compare_is_eq o) (n / u + n / u % 2) (cond (is_le o) (n / u) (suc (n / u)))
    go Ordering.lt = refl
    go Ordering.eq = refl
    go Ordering.gt = refl

closest_whole : (q u : ℕ) → 0 < u → closest (q * u) u ≡ q
closest_whole q u U =
    let e : eqb 0 u ≡ false = ne_eqb 0 u (λ e. omega arith) in
    closest_is (q * u) u ∙ rw (mul-mod_left q u, e, le-leb 0 u zero-le) (mul-div_cancel q U)

-- from the whole part t of 2n / u
module _ (n u t : ℕ) (U : 0 < u) (e : t ≡ 2 * n / u) where
  half : n / u ≡ t / 2
  half = sym (ap (λ z. z / 2) e ∙ div-div-eq-div-mul (2 * n) u 2 ∙ rw (mul_comm u 2) (mul-div-mul_left n u (zero-lt-suc 1)))

  rest : t * u + n % u * 2 ≡ 2 * n + t % 2 * u
  rest =
      let w : t / 2 * u + n % u ≡ n = rw (← half) (div-add-mod' n u) in
      let h : t ≡ 2 * (t / 2) + t % 2 = omega arith in
      omega (arith, ap (λ z. z * u) h)

  pub closest_even : t % 2 ≡ 0 → closest n u ≡ t / 2
  closest_even z =
      let k : t % 2 * u ≡ 0 = rw z (zero-mul u) in
      let b : 2 * n < t * u + u = rw e (lt-div-mul-add U) in
      let h : n % u * 2 < u = omega (arith, rest) in
      closest_is n u ∙ rw (ne_eqb (n % u * 2) u (λ g. omega arith), le-leb (n % u * 2) u (le_of_lt h)) half

  pub closest_tie : t % 2 ≡ 1 → t * u ≡ 2 * n → closest n u ≡ t / 2 + t / 2 % 2
  closest_tie z y =
      let k : t % 2 * u ≡ u = rw z (one-mul u) in
      closest_is n u ∙ rw (eq-eqb (n % u * 2) u (omega (arith, rest)), half) refl

  pub closest_up : t % 2 ≡ 1 → (t * u ≡ 2 * n → ⊥) → closest n u ≡ t / 2 + 1
  closest_up z y =
      let k : t % 2 * u ≡ u = rw z (one-mul u) in
      let a : t * u ≤ 2 * n = rw e (div-mul-le_self (2 * n) u) in
      let g : n % u * 2 ≡ u → ⊥ = λ i. y (omega (arith, rest)) in
      let h : u < n % u * 2 = lt_of_le-ne (omega (arith, rest)) (λ i. g (sym i)) in
      closest_is n u ∙ rw (ne_eqb (n % u * 2) u g, lt-leb (n % u * 2) u h, half) (sym (add-one (t / 2)))

-- ---- how many digits are dropped
size_gt : (n j : ℕ) → 2 ^ j ≤ n → j < size n
size_gt n j h = lt_of_not-le (λ (g : size n ≤ j). omega (arith, size-lt n, pow_mono g))

-- w has at most 24 + k digits, and where k is above 0 it has as many
dropped : (w k : ℕ) → w < 2 ^ (24 + k) → (k ≡ 0) ⊎ (2 ^ (23 + k) ≤ w) → size w - 24 ≡ k
dropped w k h (inl e) = let a = size-le w (24 + k) h in omega arith
dropped w k h (inr g) = let a = size-le w (24 + k) h in let b = size_gt w (23 + k) g in omega arith

-- ---- q * 2 ^ k units of binary32, with q the number that rounding keeps
round_units : (q k : ℕ) → q < 2 ^ 24 → (k ≡ 0) ⊎ (2 ^ 23 ≤ q)
    → round binary32 false (q * 2 ^ k) (2 ^ 149) ≡ units binary32 false q k
round_units q k h g =
    let l = 2 ^ 149 in
    let m : (k ≡ 0) ⊎ (2 ^ (23 + k) ≤ q * 2 ^ k) =
    elim g [ inl e ↦ inl e | inr w ↦ inr (rw (pow-add 2 23 k) (mul-le-mul_right (2 ^ k) w)) ] in
    let e : q * 2 ^ k * l ≡ q * (l * 2 ^ k) = mul_assoc q (2 ^ k) l ∙ rw (mul_comm (2 ^ k) l) refl in
    round_is binary32 false (q * 2 ^ k) l
    ∙ rw (mul-div_cancel (q * 2 ^ k) (pow_pos 149), dropped (q * 2 ^ k) k (shl_lt 24 k h) m, e)
    (ap (λ z. units binary32 false z k) (closest_whole q (l * 2 ^ k) (mul-pos (pow_pos 149) (pow_pos k))))

-- 2 ^ 24 and k dropped digits is 2 ^ 23 and one more
carry : (k : ℕ) → units binary32 false (2 ^ 23) (k + 1) ≡ units binary32 false (2 ^ 24) k
unfolding units odd
carry k =
    let top = 2 ^ (low binary32 + suc (emax binary32)) in
    let e : 8388608 * 2 ^ (k + 1) ≡ 16777216 * 2 ^ k = omega (arith, pow-add 2 k 1) in
    ap (λ z. cond (ltb z top) (odd 25 false 8388608 (k + 1) 149) (inf false)) e
    ∙ ap (λ z. cond (ltb (16777216 * 2 ^ k) top) (fin false 1 (minus z 149)) (inf false)) (add_assoc k 1 23)

units_round : (q k : ℕ) → (q ≡ 2 ^ 24) ⊎ (q < 2 ^ 24) → (k ≡ 0) ⊎ (2 ^ 23 ≤ q)
    → round binary32 false (q * 2 ^ k) (2 ^ 149) ≡ units binary32 false q k
units_round q k (inr z) h = round_units q k z h
units_round q k (inl z) h =
    let e : 16777216 * 2 ^ k ≡ 8388608 * 2 ^ (k + 1) = omega (arith, pow-add 2 k 1) in
    rw (z, e) (round_units (2 ^ 23) (k + 1) (lit< tt) (inr (le_refl (2 ^ 23))) ∙ carry k)

-- the fraction a / c in binary32, in units of 2 ^ -149, with k digits dropped, rounds as `closest` does
pub round_kept : (a c k : ℕ) → 0 < c → (k ≡ 0) ⊎ (2 ^ (23 + k) ≤ a * 2 ^ 149 / c) → a * 2 ^ 149 / c < 2 ^ (24 + k)
    → (closest (a * 2 ^ 149) (c * 2 ^ k) ≤ 2 ^ 24)
    × (round binary32 false (closest (a * 2 ^ 149) (c * 2 ^ k) * 2 ^ k) (2 ^ 149) ≡ round binary32 false a c)
round_kept a c k C h l =
    let n = a * 2 ^ 149 in
    let u = c * 2 ^ k in
    let cut : n / c / 2 ^ k ≡ n / u = div-div-eq-div-mul n c (2 ^ k) in
    let top : closest n u ≤ 2 ^ 24 =
    le_trans (nearest-le (n / u) (compare (n % u * 2) u)) (rw (← cut) (shr_lt 24 k l)) in
    let many : 2 ^ (23 + k) ≤ n / c → 2 ^ 23 ≤ n / u =
    λ g. rw (← cut) ((le-div_iff_mul-le (pow_pos k)).1 (rw (← pow-add 2 23 k) g)) in
    let kept : (k ≡ 0) ⊎ (2 ^ 23 ≤ closest n u) = elim h [
      | inl e ↦ inl e
      | inr g ↦ inr (le_trans (many g) (nearest-ge (n / u) (compare (n % u * 2) u)))
    ] in (
      top,
      units_round (closest n u) k (eq-or-lt_of_le top) kept
          ∙ sym (round_is binary32 false a c ∙ ap (λ z. core binary32 false n c z) (dropped (n / c) k l h)),
    )
