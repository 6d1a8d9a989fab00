-- The level of a sample, by the fields of its bits.
use mathlib.Core.Path.{◌≡◌, refl, sym, ap, ◌∙◌, subst}
use mathlib.Core.Bool.{Bool, true, false, cond}
use Prim.Native.Nat.{ℕ, zero, suc, ◌+◌, ◌-◌, ◌*◌, ◌/◌, ◌%◌, ◌^◌, ◌≤◌, ◌<◌}
use native.Mathlib.Nat.{add-mul-div_right, div-div-eq-div-mul, one-mul, mul_comm, mul_assoc}
use native.Mathlib.Nat.{lt_of_not-le, not-le_of_lt, le_trans, lt_of_le_of_lt, lt_of_lt_of_le, le_of_mul-le-mul_right, mul-le-mul_left, mul-le-mul_right}
use native.Mathlib.Nat.{mul-lt-mul_of_pos_right, div-eq_of_lt}
use native.Mathlib.Omega.{arith}
use lib.Dec.{eqb, lit≤, lit<}
use lib.Pow.{pow-add, pow_pos, pow_mono}
use lib.Ieee.{Float, nan, inf, fin, binary32, of_fields, of_bits}
use lib.Ieee.Exact.{HasValue}
use lib.Ieee.Nearest.{div_same}
use lib.Ieee.Positive.{num, den, den_pos, value→cross}
use Rattle.ieee.specs.Bounds.{Under}
use Rattle.ieee.proofs.Signs.{resign}
use Rattle.samples.specs.Samples.{level_of}
use Rattle.samples.proofs.Fields.{fields_of_holds, normal_value, subnormal_value}

pub level_sign : (s : Bool) (x : Float) → level_of (resign s x) ≡ level_of x
level_sign s nan = refl
level_sign s (inf t) = refl
level_sign s (fin t m e) = refl

pub under_sign : (s : Bool) (x : Float) (A : ℕ) → Under (resign s x) A → Under x A
under_sign s nan A u = elim u [ ]
under_sign s (inf _) A u = elim u [ ]
under_sign s (fin t m e) A u = u

bound : (x : Float) (A : ℕ) → Under x A → num x ≤ A * den x
bound nan A u = elim u [ ]
bound (inf _) A u = elim u [ ]
bound (fin s m e) A u = u

-- half of one more than the whole part of n / d is (n + d) / 2d
half_up : (n d : ℕ) → 0 < d → (n / d + 1) / 2 ≡ (n + d) / (2 * d)
half_up n d h =
    ap (λ z. z / 2) (sym (add-mul-div_right n 1 h) ∙ ap (λ z. (n + z) / d) (one-mul d))
    ∙ div-div-eq-div-mul (n + d) d 2 ∙ ap (λ z. (n + d) / z) (mul_comm d 2)

-- a / c, by another fraction
level_at : (x : Float) (a c : ℕ) → 0 < c → HasValue x false a c → level_of x ≡ (2 * a / c + 1) / 2
level_at x a c C v =
    sym (half_up (2 * num x) (den x) (den_pos x))
    ∙ ap (λ z. (z + 1) / 2)
    (div_same (2 * num x) (den x) (2 * a) c (den_pos x) C (twice (num x) c a (den x) (value→cross x a c v)))
  where
    twice : (n c a d : ℕ) → n * c ≡ a * d → 2 * n * c ≡ 2 * a * d
    twice n c a d e = omega arith

-- the value of the bits b
module _ (b : ℕ) (B : b < 2147483648) (u : Under (of_bits binary32 b) 4095) where
  abbrev m : ℕ
  m = b % 8388608 + 8388608

  -- it is no infinity and no NaN
  field : b / 8388608 < 255
  unfolding of_fields
  field = lt_of_not-le (λ (l : 255 ≤ b / 8388608).
      let e : b / 8388608 ≡ 255 = omega arith in
      go (eqb (b % 8388608) 0) (fields_of_holds binary32 b B ∙ ap (λ z. of_fields binary32 false z (b % 8388608)) e))
    where
      go : (d : Bool) → of_bits binary32 b ≡ cond d (inf false) nan → ⊥
      go true j = subst (λ z. Under z 4095) j u
      go false j = subst (λ z. Under z 4095) j u

  value : (i : ℕ) → b / 8388608 ≡ suc i → HasValue (of_bits binary32 b) false (m * 2 ^ i) (2 ^ 149)
  value i e = normal_value binary32 b B i e (omega (arith, field))

  none : (a : ℕ) → HasValue (of_bits binary32 b) false a (2 ^ 149) → 2 * a < 2 ^ 149 → level_of (of_bits binary32 b) ≡ 0
  none a v h =
      level_at (of_bits binary32 b) a (2 ^ 149) (pow_pos 149) v ∙ ap (λ z. (z + 1) / 2) (div-eq_of_lt h)

  pub low : b / 8388608 < 126 → 0 ≡ level_of (of_bits binary32 b)
  unfolding of_fields
  low h = sym (go (b / 8388608) refl)
    where
      go : (e : ℕ) → b / 8388608 ≡ e → level_of (of_bits binary32 b) ≡ 0
      go zero z =
          let t = b % 8388608 in
          let few : 2 * (t * 2 ^ 0) ≤ 2 ^ 24 = omega arith in
          none (t * 2 ^ 0) (subnormal_value binary32 b B z) (lt_of_le_of_lt few (lit< tt))
      go (suc i) z =
          let few : 2 * m < 2 ^ 25 = omega arith in
          let least : i ≤ 124 = omega arith in
          none (m * 2 ^ i) (value i z)
          (lt_of_lt_of_le (rw (← mul_assoc 2 m (2 ^ i)) (mul-lt-mul_of_pos_right few (pow_pos i)))
          (le_trans (mul-le-mul_left (2 ^ 25) (pow_mono least)) (lit≤ tt)))

  pub high : 126 ≤ b / 8388608 → (b / 8388608 ≤ 138)
      × ((m / 2 ^ (149 - b / 8388608) + 1) / 2 ≡ level_of (of_bits binary32 b))
  high h =
      let i = b / 8388608 - 1 in
      let is : b / 8388608 ≡ suc i = omega arith in
      let v = value i is in
      let y = of_bits binary32 b in
      let cross = value→cross y (m * 2 ^ i) (2 ^ 149) v in
      let large : m * 2 ^ i ≤ 4095 * 2 ^ 149 =
      le_of_mul-le-mul_right (room (num y) (den y) (m * 2 ^ i) (2 ^ 149) cross (bound y 4095 u)) (den_pos y) in
      let least : 2 ^ 23 * 2 ^ i ≤ m * 2 ^ i = mul-le-mul_right (2 ^ i) (omega arith) in
      let top : i < 138 = lt_of_not-le (λ (l : 138 ≤ i).
      not-le_of_lt (lit< tt) (le_trans (mul-le-mul_left (2 ^ 23) (pow_mono l)) (le_trans least large))) in
      let k = 149 - b / 8388608 in
      let sum : 1 + i + k ≡ 149 = omega arith in
      let same : 2 * (m * 2 ^ i) * 2 ^ k ≡ m * 2 ^ 149 =
      shuffle m (2 ^ i) (2 ^ k)
      ∙ ap (λ z. m * z) (sym (pow-add 2 (1 + i) k ∙ ap (λ z. z * 2 ^ k) (pow-add 2 1 i)) ∙ ap (λ z. 2 ^ z) sum) in (
        omega arith,
        sym (level_at y (m * 2 ^ i) (2 ^ 149) (pow_pos 149) v
            ∙ ap (λ z. (z + 1) / 2) (div_same (2 * (m * 2 ^ i)) (2 ^ 149) m (2 ^ k) (pow_pos 149) (pow_pos k) same)),
      )
    where
      room : (n d a l : ℕ) → n * l ≡ a * d → n ≤ 4095 * d → a * d ≤ 4095 * l * d
      room n d a l e h = omega (arith, mul-le-mul_right l h)

      shuffle : (m p q : ℕ) → 2 * (m * p) * q ≡ m * (2 * p * q)
      shuffle m p q = omega arith
