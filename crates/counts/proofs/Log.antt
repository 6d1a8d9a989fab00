-- `ceil_log2` is the least b with v ≤ 2^b, for v up to 2^32; and what the count of leading zeros says of it. Assumes nothing.
use mathlib.Core.Path.{◌≡◌, refl, sym, ◌∙◌}
use mathlib.Core.Bool.{Bool, true, false, cond}
use Prim.Native.Nat.{ℕ, zero, suc, ◌+◌, ◌-◌, ◌*◌, ◌%◌, ◌^◌, ◌<◌, ◌≤◌, zero-le}
use native.Mathlib.Decide.{dec_le}
use native.Mathlib.Omega.{arith}
use native.Mathlib.Nat.{le_trans, one-mul, mod-eq_of_lt, not-le_of_lt, le_antisymm}
use borrow.Author.Tests.{leb-true, leb-false}
use lib.Dec.{leb}
use lib.Count.{count_leading_zeros, leading_top}
use lib.Pow.{pow_mono, pow-lt}
use Rattle.counts.specs.Counts.{least_bits, ceil_log2}

-- it is enough
reaches : (n v : ℕ) → v ≤ 2 ^ n → v ≤ 2 ^ least_bits n v
unfolding least_bits
reaches zero v h = h
reaches (suc k) v h =
    let deeper : v ≤ 2 ^ k → v ≤ 2 ^ least_bits k v = reaches k v in
    let go : (t : Bool) → leb v (2 ^ k) ≡ t → v ≤ 2 ^ cond t (least_bits k v) (suc k) =
    elim [ true ↦ λ e. deeper (leb-true v (2 ^ k) e) | false ↦ λ e. h ] in
    go (leb v (2 ^ k)) refl

-- nothing less is
at_most : (n v j : ℕ) → v ≤ 2 ^ j → least_bits n v ≤ j
unfolding least_bits
at_most zero v j h = zero-le
at_most (suc k) v j h =
    let deeper : least_bits k v ≤ j = at_most k v j h in
    let go : (t : Bool) → leb v (2 ^ k) ≡ t → cond t (least_bits k v) (suc k) ≤ j =
    elim [ true ↦ λ e. deeper | false ↦ λ e. past (leb-false v (2 ^ k) e) ] in
    go (leb v (2 ^ k)) refl
  where
    past : 2 ^ k < v → suc k ≤ j
    past l = elim (dec_le j k) [ yes g ↦ absurd (not-le_of_lt l (le_trans h (pow_mono g))) | no g ↦ omega arith ]

pub ceil_reaches : (v : ℕ) → v ≤ 2 ^ 32 → v ≤ 2 ^ ceil_log2 v
unfolding ceil_log2
ceil_reaches v h = reaches 32 v h

pub ceil_least : (v j : ℕ) → v ≤ 2 ^ j → ceil_log2 v ≤ j
unfolding ceil_log2
ceil_least v j h = at_most 32 v j h

-- between two powers
pub ceil_between : (v j : ℕ) → j < 32 → 2 ^ j < v → v ≤ 2 ^ suc j → ceil_log2 v ≡ suc j
ceil_between v j h low high =
    le_antisymm (ceil_least v (suc j) high)
    (elim (dec_le (ceil_log2 v) j) [
      | yes g ↦ absurd (not-le_of_lt low (le_trans (ceil_reaches v (le_trans high (pow_mono h))) (pow_mono g)))
      | no g ↦ omega arith
    ])

-- the binary digits of a, from the count of its leading zeros
pub digits : (a : ℕ) → 0 < a → a < 2 ^ 32 → 32 - count_leading_zeros 32 a ≡ ceil_log2 (a + 1)
digits a h k =
    let t = leading_top 32 a h k in
    let e : 32 - count_leading_zeros 32 a ≡ suc t.0 = omega arith in
    e ∙ sym (ceil_between (a + 1) t.0 (omega arith) (omega arith) (omega arith))

pub digits_pos : (a : ℕ) → 0 < a → a < 2 ^ 32 → 1 ≤ 32 - count_leading_zeros 32 a
digits_pos a h k = let t = leading_top 32 a h k in omega arith

-- 1 << l in 64 bits
pub shifted : (l : ℕ) → l ≤ 32 → 1 * 2 ^ l % 2 ^ 64 ≡ 2 ^ l
shifted l h = rw one-mul (mod-eq_of_lt (pow-lt {i = l} {j = 64} (omega arith)))
