-- A number equals itself; a float is determined by its value, and the value of an f32 by its bits.
use mathlib.Core.Path.{◌≡◌, refl, sym, ap, ◌∙◌, subst}
use mathlib.Core.Logic.{◌⊎◌, inl, inr}
use mathlib.Core.Bool.{Bool, true, false, cond, not, false≢true}
use Prim.Native.Nat.{ℕ, suc, ◌+◌, ◌-◌, ◌*◌, ◌/◌, ◌%◌, ◌^◌, ◌≤◌, ◌<◌}
use native.Mathlib.Nat.{eq-or-lt_of_le, pow-suc}
use native.Mathlib.Omega.{arith}
use lib.Dec.{T, leb}
use lib.Ieee.{Float, nan, inf, fin, Format, binary32, prec, low, hid, top, up, down, size, eq, is_nan, fits, of_bits, to_bits}
use lib.Ieee.Fits.{down_pos}
use lib.Ieee.Bits.{of_bits-to_bits}
use lib.Ieee.Exact.{HasValue}
use lib.Ieee.Nearest.{div_same}
use borrow.Author.Tests.{leb-true, leb-false, eq-eqb}
use Rattle.ieee.specs.Bounds.{Under}
use Rattle.ieee.proofs.Fractions.{same_through}
use Rattle.samples.proofs.Fields.{normal_value, subnormal_value}

-- ---- what equals itself is no NaN, and what does not is one
pub number : (x : Float) → eq x x ≡ true → is_nan x ≡ false
unfolding eq is_nan
number nan e = sym e
number (inf s) e = refl
number (fin s m k) e = refl

pub none : (x : Float) → eq x x ≡ false → x ≡ nan
unfolding eq
none nan e = refl
none (inf true) e = absurd (false≢true (sym e))
none (inf false) e = absurd (false≢true (sym e))
none (fin true m k) e = absurd (false≢true (sym e ∙ rw (eq-eqb (m * up k * down k) (m * up k * down k) refl) refl))
none (fin false m k) e = absurd (false≢true (sym e ∙ rw (eq-eqb (m * up k * down k) (m * up k * down k) refl) refl))

pub under_number : (x : Float) (A : ℕ) → Under x A → T (not (is_nan x))
unfolding is_nan
under_number nan A u = elim u [ ]
under_number (inf _) A u = elim u [ ]
under_number (fin s m e) A u = tt

-- ---- two floats that fit and have one value are the same
same_bits : (f : Format) (x y : Float) (s : Bool) (a c : ℕ) → 0 < c → HasValue x s a c → HasValue y s a c
    → to_bits f x ≡ to_bits f y
unfolding to_bits
same_bits f nan y s a c C v w = elim v [ ]
same_bits f (inf _) y s a c C v w = elim v [ ]
same_bits f (fin t m e) nan s a c C v w = elim w [ ]
same_bits f (fin t m e) (inf _) s a c C v w = elim w [ ]
same_bits f (fin t m e) (fin u n g) s a c C v w =
    let l = 2 ^ low f in
    let through : m * up e * down g ≡ n * up g * down e =
    same_through (m * up e) (down e) a c (n * up g) (down g) C v.1 (sym w.1) in
    let is : m * up e * l / down e ≡ n * up g * l / down g =
    div_same (m * up e * l) (down e) (n * up g * l) (down g) (down_pos e) (down_pos g)
    (swap (m * up e) l (down g) ∙ ap (λ z. z * l) through ∙ sym (swap (n * up g) l (down e))) in
    rw (v.0, w.0)
    (ap (λ z. cond s (top f) 0 + (size z - prec f) * hid f + z / 2 ^ (size z - prec f)) is)
  where
    swap : (p l q : ℕ) → p * l * q ≡ p * q * l
    swap p l q = omega arith

pub same_value : (f : Format) (x y : Float) (s : Bool) (a c : ℕ) → T (fits f x) → T (fits f y) → 0 < c → HasValue x s a c
    → HasValue y s a c → x ≡ y
same_value f x y s a c p q C v w =
    sym (of_bits-to_bits f x p) ∙ ap (of_bits f) (same_bits f x y s a c C v w) ∙ of_bits-to_bits f y q

-- ---- an f32 by its bits
normal : (x t : ℕ) → t < 2 ^ 23 → suc x < 255
    → HasValue (of_bits binary32 (suc x * 8388608 + t)) false ((8388608 + t) * 2 ^ x) (2 ^ 149)
normal x t h k =
    let b = suc x * 8388608 + t in
    let digits : b % 8388608 + 8388608 ≡ 8388608 + t = omega arith in
    rw (← digits) (normal_value binary32 b (omega arith) x (omega arith) k)

subnormal : (t : ℕ) → t < 2 ^ 23 → HasValue (of_bits binary32 (0 * 8388608 + t)) false (t * 2 ^ 0) (2 ^ 149)
subnormal t h =
    let b = 0 * 8388608 + t in
    let digits : b % 8388608 ≡ t = omega arith in
    subst (λ z. HasValue (of_bits binary32 b) false (z * 2 ^ 0) (2 ^ 149)) digits
    (subnormal_value binary32 b (omega arith) (omega arith))

-- q units of 2 ^ (k - 149), with q of 24 digits or k = 0: a q of 2 ^ 24 carries into the exponent's field
pub bits_value : (k q : ℕ) → q ≤ 2 ^ 24 → (k ≡ 0) ⊎ (2 ^ 23 ≤ q) → k < 254 → (q ≡ 2 ^ 24 → k < 253)
    → HasValue (of_bits binary32 (k * 8388608 + q)) false (q * 2 ^ k) (2 ^ 149)
bits_value k q h g l c = go (eq-or-lt_of_le h) g
  where
    go : (q ≡ 2 ^ 24) ⊎ (q < 2 ^ 24) → (k ≡ 0) ⊎ (2 ^ 23 ≤ q)
        → HasValue (of_bits binary32 (k * 8388608 + q)) false (q * 2 ^ k) (2 ^ 149)
    go (inl e) z =
        let same : suc (suc k) * 8388608 + 0 ≡ k * 8388608 + q = omega arith in
        let size : (8388608 + 0) * 2 ^ suc k ≡ q * 2 ^ k = rw (pow-suc 2 k, e) (omega arith) in
        rw (← same, ← size) (normal (suc k) 0 (omega arith) (omega (arith, c e)))
    go (inr m) z = either (leb 8388608 q) refl z
      where
        either : (b : Bool) → leb 8388608 q ≡ b → (k ≡ 0) ⊎ (2 ^ 23 ≤ q)
            → HasValue (of_bits binary32 (k * 8388608 + q)) false (q * 2 ^ k) (2 ^ 149)
        either false b (inl e) = rw e (subnormal q (leb-false 8388608 q b))
        either false b (inr w) = absurd (omega (arith, leb-false 8388608 q b))
        either true b w =
            let few : 8388608 ≤ q = leb-true 8388608 q b in
            let same : suc k * 8388608 + (q - 8388608) ≡ k * 8388608 + q = omega arith in
            let size : 8388608 + (q - 8388608) ≡ q = omega arith in
            rw (← same) (subst (λ z. HasValue (of_bits binary32 (suc k * 8388608 + (q - 8388608))) false (z * 2 ^ k) (2 ^ 149)) size
            (normal k (q - 8388608) (omega arith) (omega arith)))
