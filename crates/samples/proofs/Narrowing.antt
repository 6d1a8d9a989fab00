-- The f32 nearest to an f64 that has no sign, by the fields of its bits: a law for each way through `narrow_bits`.
use mathlib.Core.Path.{◌≡◌, refl, sym, ap, ◌∙◌}
use mathlib.Core.Logic.{◌⊎◌, inl, inr}
use mathlib.Core.Bool.{false}
use Prim.Native.Nat.{ℕ, zero, suc, ◌+◌, ◌-◌, ◌*◌, ◌/◌, ◌%◌, ◌^◌, ◌≤◌, ◌<◌}
use native.Mathlib.Nat.{mul_assoc, mul-pos, mul-one, zero-add, le_trans, lt_of_lt_of_le, mul-le-mul_left, mul-le-mul_right}
use native.Mathlib.Nat.{eq-or-lt_of_le}
use native.Mathlib.Omega.{arith}
use lib.Dec.{lit≤}
use lib.Pow.{pow-add, pow_pos, pow_mono}
use lib.Ieee.{Float, inf, fin, binary32, binary64, up, down, round, of_fields, of_bits, nan}
use lib.Ieee.Fits.{down_pos}
use lib.Ieee.Exact.{HasValue}
use lib.Ieee.Nearest.{closest}
use lib.Ieee.Scale.{round_same}
use Rattle.samples.specs.Narrow.{narrow_of}
use Rattle.samples.proofs.Fields.{fields_of_holds, normal_value, subnormal_value}
use Rattle.samples.proofs.Kept.{kept_bits, huge, tiny}

-- by any fraction that x equals
narrow_at : (x : Float) (a c : ℕ) → 0 < c → HasValue x false a c → narrow_of x ≡ round binary32 false a c
narrow_at nan a c C v = elim v [ ]
narrow_at (inf _) a c C v = elim v [ ]
narrow_at (fin t m e) a c C v = rw v.0 (round_same binary32 false (m * up e) (down e) a c (down_pos e) C v.1)

powers : (m i p q r l : ℕ) → i + (p + q) ≡ r + l → m * 2 ^ i * (2 ^ p * 2 ^ q) ≡ m * 2 ^ r * 2 ^ l
powers m i p q r l e =
    mul_assoc m (2 ^ i) (2 ^ p * 2 ^ q)
    ∙ ap (λ z. m * z) (ap (λ z. 2 ^ i * z) (sym (pow-add 2 p q)) ∙ sym (pow-add 2 i (p + q)) ∙ ap (λ z. 2 ^ z) e ∙ pow-add 2 r l)
    ∙ sym (mul_assoc m (2 ^ r) (2 ^ l))

module _ (b : ℕ) (B : b ≤ 0x7ff0_0000_0000_0000) where
  small : b < 9223372036854775808
  small = omega arith

  abbrev m : ℕ
  m = b % 4503599627370496 + 4503599627370496

  normal : (i : ℕ) → b / 4503599627370496 ≡ suc i → suc i < 2047
      → narrow_of (of_bits binary64 b) ≡ round binary32 false (m * 2 ^ i) (2 ^ 1074)
  normal i e l =
      narrow_at (of_bits binary64 b) (m * 2 ^ i) (2 ^ 1074) (pow_pos 1074) (normal_value binary64 b small i e l)

  subnormal : b / 4503599627370496 ≡ 0
      → narrow_of (of_bits binary64 b) ≡ round binary32 false (b % 4503599627370496 * 2 ^ 0) (2 ^ 1074)
  subnormal e =
      narrow_at (of_bits binary64 b) (b % 4503599627370496 * 2 ^ 0) (2 ^ 1074) (pow_pos 1074) (subnormal_value binary64 b small e)

  infinite : b / 4503599627370496 ≡ 2047 → narrow_of (of_bits binary64 b) ≡ inf false
  unfolding of_fields
  infinite e = let z : b % 4503599627370496 ≡ 0 = omega arith in rw (fields_of_holds binary64 b small, e, z) refl

  -- below 2 ^ -150
  pub nothing : b / 4503599627370496 < 873 → of_bits binary32 0 ≡ narrow_of (of_bits binary64 b)
  nothing h = go (b / 4503599627370496) refl
    where
      go : (e : ℕ) → b / 4503599627370496 ≡ e → of_bits binary32 0 ≡ narrow_of (of_bits binary64 b)
      go zero z =
          let t = b % 4503599627370496 in
          let few : t ≤ 2 ^ 52 = omega arith in
          sym (subnormal z ∙ tiny (t * 2 ^ 0) (2 ^ 1074) (pow_pos 1074)
          (rw (mul-one t) (le_trans (mul-le-mul_right (2 ^ 150) few) (lit≤ tt))))
      go (suc i) z =
          let few : m ≤ 2 ^ 53 = omega arith in
          let low : i ≤ 871 = omega arith in
          sym (normal i z (omega arith) ∙ tiny (m * 2 ^ i) (2 ^ 1074) (pow_pos 1074)
          (le_trans (mul-le-mul_right (2 ^ 150) (le_trans (mul-le-mul_right (2 ^ i) few) (mul-le-mul_left (2 ^ 53) (pow_mono low)))) (lit≤ tt)))

  kept : (k s : ℕ) → 897 + k ≡ b / 4503599627370496 + s - 29 → 29 ≤ s → b / 4503599627370496 < 1151 → 873 ≤ b / 4503599627370496
      → (k ≡ 0) ⊎ (s ≡ 29)
      → (closest m (2 ^ s) ≤ 2 ^ 24) × (of_bits binary32 (k * 8388608 + closest m (2 ^ s)) ≡ narrow_of (of_bits binary64 b))
  kept k s e S h l g =
      let i = b / 4503599627370496 - 1 in
      let is : b / 4503599627370496 ≡ suc i = omega arith in
      let m-lt : m < 2 ^ 53 = omega arith in
      let r = kept_bits m k s (lt_of_lt_of_le m-lt (mul-le-mul_left (2 ^ 24) (pow_mono S))) (digits g) (omega (arith, fewer g)) in
      let same : m * 2 ^ i * (2 ^ 149 * 2 ^ s) ≡ m * 2 ^ k * 2 ^ 1074 = powers m i 149 s k 1074 (omega arith) in (
        r.0,
        sym (normal i is (omega arith)
            ∙ round_same binary32 false (m * 2 ^ i) (2 ^ 1074) (m * 2 ^ k) (2 ^ 149 * 2 ^ s) (pow_pos 1074)
            (mul-pos (pow_pos 149) (pow_pos s)) same
            ∙ r.1),
      )
    where
      digits : (k ≡ 0) ⊎ (s ≡ 29) → (k ≡ 0) ⊎ (2 ^ 23 * 2 ^ s ≤ b % 4503599627370496 + 4503599627370496)
      digits (inl z) = inl z
      digits (inr z) = inr (rw z (omega arith))

      fewer : (k ≡ 0) ⊎ (s ≡ 29) → k < 254
      fewer (inl z) = omega arith
      fewer (inr z) = omega arith

  -- below 2 ^ -126
  pub few : 873 ≤ b / 4503599627370496 → b / 4503599627370496 < 897 → let s = 926 - b / 4503599627370496 in
      (closest m (2 ^ s) ≤ 2 ^ 24) × (of_bits binary32 (closest m (2 ^ s)) ≡ narrow_of (of_bits binary64 b))
  few h l =
      let s = 926 - b / 4503599627370496 in
      let r = kept 0 s (omega arith) (omega arith) (omega arith) h (inl refl) in
      (r.0, ap (of_bits binary32) (sym (zero-add (closest m (2 ^ s)))) ∙ r.1)

  pub most : 897 ≤ b / 4503599627370496 → b / 4503599627370496 < 1151 → let k = b / 4503599627370496 - 897 in
      (closest m (2 ^ 29) ≤ 2 ^ 24) × (of_bits binary32 (k * 8388608 + closest m (2 ^ 29)) ≡ narrow_of (of_bits binary64 b))
  most h l = kept (b / 4503599627370496 - 897) 29 (omega arith) (omega arith) l (omega arith) (inr refl)

  -- from 2 ^ 128 on
  pub above : 1150 < b / 4503599627370496 → of_bits binary32 0x7f80_0000 ≡ narrow_of (of_bits binary64 b)
  unfolding of_bits
  above h = go (eq-or-lt_of_le (top b B))
    where
      top : (b : ℕ) → b ≤ 0x7ff0_0000_0000_0000 → b / 4503599627370496 ≤ 2047
      top b B = omega arith

      go : (b / 4503599627370496 ≡ 2047) ⊎ (b / 4503599627370496 < 2047) → inf false ≡ narrow_of (of_bits binary64 b)
      go (inl z) = sym (infinite z)
      go (inr l) =
          let i = b / 4503599627370496 - 1 in
          let is : b / 4503599627370496 ≡ suc i = omega arith in
          let low : 2 ^ 52 ≤ m = omega arith in
          let many : 1150 ≤ i = omega arith in
          sym (normal i is (omega arith) ∙ huge (m * 2 ^ i) (2 ^ 1074) (pow_pos 1074)
          (le_trans (lit≤ tt) (le_trans (mul-le-mul_left (2 ^ 52) (pow_mono many)) (mul-le-mul_right (2 ^ i) low))))
