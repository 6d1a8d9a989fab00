-- The f32 nearest to a number of binary digits: of m the s last digits are dropped, to nearest, ties to even, and what is kept
-- stands in the bits as it is.
use mathlib.Core.Path.{◌≡◌, refl, sym, ap, ◌∙◌}
use mathlib.Core.Logic.{◌⊎◌, inl, inr}
use mathlib.Core.Bool.{true, false}
use Prim.Native.Nat.{ℕ, ◌+◌, ◌*◌, ◌/◌, ◌^◌, ◌≤◌, ◌<◌, zero-le}
use native.Mathlib.Nat.{mul-pos, mul-one, mul_assoc, one-mul, zero-lt-suc, eq-or-lt_of_le, div-lt_iff_lt-mul, le-div_iff_mul-le}
use native.Mathlib.Nat.{mul-lt-mul_of_pos_right, mul-le-mul_right, lt_of_lt_of_le, le_of_suc-le-suc}
use native.Mathlib.Omega.{arith}
use lib.Dec.{T, lit<, lit≤}
use lib.Arith.{le-zero}
use lib.Pow.{pow-add, pow_pos, pow-lt, pow_mono, shl_lt}
use lib.Ieee.{Float, nan, inf, fin, binary32, round, lt, eq, le, of_bits}
use lib.Ieee.Fits.{round-fits}
use lib.Ieee.Bits.{of_bits-fits}
use lib.Ieee.Exact.{HasValue, round_exact}
use lib.Ieee.Nearest.{closest, closest_same, closest_mono, div_same}
use lib.Ieee.Order.{round_mono}
use Rattle.ieee.proofs.HalfEven.{round_kept}
use Rattle.samples.proofs.Values.{same_value, bits_value}

-- from 2 ^ 128 on there are infinities
infinite : (y : Float) → T (le (inf false) y) → y ≡ inf false
unfolding le lt eq
infinite nan h = absurd h
infinite (inf true) h = absurd h
infinite (inf false) h = refl
infinite (fin s m e) h = absurd h

pub huge : (a c : ℕ) → 0 < c → 2 ^ 128 * c ≤ a → round binary32 false a c ≡ inf false
unfolding round
huge a c C h =
    infinite (round binary32 false a c)
    (round_mono binary32 (2 ^ 128) 1 a c (zero-lt-suc 0) C (rw (mul-one a) h))

-- q units of 2 ^ (k - 149) are an f32
exact : (k q : ℕ) → q ≤ 2 ^ 24 → k < 254 → (q ≡ 2 ^ 24 → k < 253)
    → HasValue (round binary32 false (q * 2 ^ k) (2 ^ 149)) false (q * 2 ^ k) (2 ^ 149)
exact k q h l c = go (eq-or-lt_of_le h)
  where
    go : (q ≡ 2 ^ 24) ⊎ (q < 2 ^ 24) → HasValue (round binary32 false (q * 2 ^ k) (2 ^ 149)) false (q * 2 ^ k) (2 ^ 149)
    go (inr m) =
        round_exact binary32 false (q * 2 ^ k) (2 ^ 149) q k (pow_pos 149) m
        (lt_of_lt_of_le (shl_lt 24 k m) (pow_mono {i = 24 + k} {j = 277} (omega arith))) refl
    go (inl e) =
        let is : q * 2 ^ k ≡ 1 * 2 ^ (24 + k) = rw (e, one-mul (2 ^ (24 + k))) (sym (pow-add 2 24 k)) in
        round_exact binary32 false (q * 2 ^ k) (2 ^ 149) 1 (24 + k) (pow_pos 149) (lit< tt)
        (rw (one-mul (2 ^ (24 + k))) (pow-lt {i = 24 + k} {j = 277} (omega (arith, c e)))) (ap (λ z. z * 2 ^ 149) is)

last : round binary32 false (2 ^ 24 * 2 ^ 253) (2 ^ 149) ≡ of_bits binary32 (253 * 8388608 + 2 ^ 24)
unfolding of_bits
last = huge (2 ^ 24 * 2 ^ 253) (2 ^ 149) (pow_pos 149) (lit≤ tt)

-- they are what the bits say; 2 ^ 24 of the largest units are an infinity
of_bits_kept : (k q : ℕ) → q ≤ 2 ^ 24 → (k ≡ 0) ⊎ (2 ^ 23 ≤ q) → k < 254
    → round binary32 false (q * 2 ^ k) (2 ^ 149) ≡ of_bits binary32 (k * 8388608 + q)
of_bits_kept k q h g l = go (eq-or-lt_of_le (le_of_suc-le-suc l))
  where
    finite : (q ≡ 2 ^ 24 → k < 253) → round binary32 false (q * 2 ^ k) (2 ^ 149) ≡ of_bits binary32 (k * 8388608 + q)
    finite c =
        same_value binary32 (round binary32 false (q * 2 ^ k) (2 ^ 149)) (of_bits binary32 (k * 8388608 + q)) false (q * 2 ^ k)
        (2 ^ 149) (round-fits binary32 false (q * 2 ^ k) (2 ^ 149)) (of_bits-fits binary32 (k * 8388608 + q)) (pow_pos 149)
        (exact k q h l c) (bits_value k q h g l c)

    go : (k ≡ 253) ⊎ (k < 253) → round binary32 false (q * 2 ^ k) (2 ^ 149) ≡ of_bits binary32 (k * 8388608 + q)
    go (inr m) = finite (λ e. m)
    go (inl e) = elim (eq-or-lt_of_le h) [
      | inl d ↦ rw (e, d) last
      | inr m ↦ finite (λ d. absurd (omega arith))
    ]

-- p, u and l are powers of two
shuffle : (m p l u : ℕ) → m * p * l * u ≡ m * p * (l * u)
shuffle m p l u = omega arith

turn : (m p l u : ℕ) → m * p * l * u ≡ m * (l * u * p)
turn m p l u = omega arith

under : (m p u : ℕ) → 0 < p → m < 16777216 * u → m * p < 16777216 * p * u
under m p u P h = omega (arith, mul-lt-mul_of_pos_right h P)

over : (m p u : ℕ) → 8388608 * u ≤ m → 8388608 * p * u ≤ m * p
over m p u h = omega (arith, mul-le-mul_right p h)

-- m * 2 ^ k / 2 ^ (149 + s)
module _ (m k s : ℕ) (h : m < 2 ^ 24 * 2 ^ s) (g : (k ≡ 0) ⊎ (2 ^ 23 * 2 ^ s ≤ m)) (l : k < 254) where
  c_pos : 0 < 2 ^ 149 * 2 ^ s
  c_pos = mul-pos (pow_pos 149) (pow_pos s)

  whole : m * 2 ^ k * 2 ^ 149 / (2 ^ 149 * 2 ^ s) ≡ m * 2 ^ k / 2 ^ s
  whole =
      div_same (m * 2 ^ k * 2 ^ 149) (2 ^ 149 * 2 ^ s) (m * 2 ^ k) (2 ^ s) c_pos (pow_pos s)
      (shuffle m (2 ^ k) (2 ^ 149) (2 ^ s))

  kept : closest (m * 2 ^ k * 2 ^ 149) (2 ^ 149 * 2 ^ s * 2 ^ k) ≡ closest m (2 ^ s)
  kept =
      closest_same (m * 2 ^ k * 2 ^ 149) (2 ^ 149 * 2 ^ s * 2 ^ k) m (2 ^ s) (mul-pos c_pos (pow_pos k)) (pow_pos s)
      (turn m (2 ^ k) (2 ^ 149) (2 ^ s))

  rounds : (closest m (2 ^ s) ≤ 2 ^ 24)
      × (round binary32 false (closest m (2 ^ s) * 2 ^ k) (2 ^ 149) ≡ round binary32 false (m * 2 ^ k) (2 ^ 149 * 2 ^ s))
  rounds =
      rw (← kept) (round_kept (m * 2 ^ k) (2 ^ 149 * 2 ^ s) k c_pos (rw whole (many g))
      (rw whole ((div-lt_iff_lt-mul (pow_pos s)).1 (rw (pow-add 2 24 k) (under m (2 ^ k) (2 ^ s) (pow_pos k) h)))))
    where
      many : (k ≡ 0) ⊎ (2 ^ 23 * 2 ^ s ≤ m) → (k ≡ 0) ⊎ (2 ^ (23 + k) ≤ m * 2 ^ k / 2 ^ s)
      many (inl e) = inl e
      many (inr w) = inr ((le-div_iff_mul-le (pow_pos s)).1 (rw (pow-add 2 23 k) (over m (2 ^ k) (2 ^ s) w)))

  large : (k ≡ 0) ⊎ (2 ^ 23 ≤ closest m (2 ^ s))
  large = elim g [
    | inl e ↦ inl e
    | inr w ↦ inr (at_least w)
  ]
    where
      at_least : 2 ^ 23 * 2 ^ s ≤ m → 2 ^ 23 ≤ closest m (2 ^ s)
      at_least w = closest_mono (2 ^ 23) 1 m (2 ^ s) (zero-lt-suc 0) (pow_pos s) (rw (mul-one m) w)

  pub kept_bits : (closest m (2 ^ s) ≤ 2 ^ 24)
      × (round binary32 false (m * 2 ^ k) (2 ^ 149 * 2 ^ s) ≡ of_bits binary32 (k * 8388608 + closest m (2 ^ s)))
  kept_bits = (rounds.0, sym rounds.1 ∙ of_bits_kept k (closest m (2 ^ s)) rounds.0 large l)

-- what is at most 2 ^ -150 is nearest to 0
pub tiny : (n d : ℕ) → 0 < d → n * 2 ^ 150 ≤ d → round binary32 false n d ≡ of_bits binary32 0
tiny n d D h =
    let a = n * 2 ^ 149 in
    let half : a * 2 ≤ 1 * (d * 2 ^ 0) = rw (mul_assoc n (2 ^ 149) 2, one-mul (d * 2 ^ 0), mul-one d) h in
    let none : closest a (d * 2 ^ 0) ≡ 0 =
    le-zero (closest_mono a (d * 2 ^ 0) 1 2 (rw (mul-one d) D) (zero-lt-suc 1) half) in
    let few : a / d < 2 ^ 24 = (div-lt_iff_lt-mul D).1 (less a d D (rw (mul-one d) at half)) in
    let kept = round_kept n d 0 D (inl refl) few in
    sym kept.1 ∙ ap (λ z. round binary32 false (z * 2 ^ 0) (2 ^ 149)) none
    ∙ of_bits_kept 0 0 zero-le (inl refl) (lit< tt)
  where
    less : (a d : ℕ) → 0 < d → a * 2 ≤ 1 * d → a < 16777216 * d
    less a d D h = omega arith
