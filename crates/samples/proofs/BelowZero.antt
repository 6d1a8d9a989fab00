-- Whether a float is below zero, by its bits.
use mathlib.Core.Path.{◌≡◌, refl, sym, ap, ◌∙◌}
use mathlib.Core.Bool.{true, false, false≢true}
use Prim.Native.Nat.{ℕ, zero, suc, ◌*◌, ◌/◌, ◌^◌, ◌≤◌, ◌<◌}
use native.Mathlib.Nat.{zero-mul, zero-lt-suc, mul-pos, zero-div}
use native.Mathlib.Omega.{arith}
use lib.Dec.{T, leb}
use lib.Ieee.{Float, nan, inf, fin, binary32, up, down, fits, is_nan, lt, eq, le, of_bits, to_bits}
use lib.Ieee.Fits.{up_pos, down_pos}
use lib.Ieee.Bits.{of_bits-to_bits, to_bits-lt}
use lib.IntN.{ℤ, pos}
use borrow.Author.Tests.{le-leb, lt-leb, ne_eqb}
use Rattle.ieee.proofs.Signs.{zero_bits}
use Rattle.ieee.proofs.Tests.{le_at}

-- what is at most something is no NaN
pub number_below : (x y : Float) → le x y ≡ true → is_nan x ≡ false
unfolding le lt eq is_nan
number_below nan y e = sym e
number_below (inf s) y e = refl
number_below (fin s m k) y e = refl

fits_sign : (m : ℕ) (e : ℤ) → T (fits binary32 (fin false m e)) → T (fits binary32 (fin true m e))
unfolding fits
fits_sign zero e f = f
fits_sign (suc m) e f = f

plus_bits : (m : ℕ) (e : ℤ) → T (fits binary32 (fin false m e)) → to_bits binary32 (fin false m e) ≤ 2147483648
unfolding to_bits
plus_bits m e f = omega (arith, to_bits-lt binary32 (fin true m e) (fits_sign m e f))

plus_above : (m : ℕ) (e : ℤ) → le (of_bits binary32 0) (fin false m e) ≡ true
plus_above m e =
    rw (zero_bits binary32) (le_at (fin false 0 (pos 0)) (fin false m e) 0 1 (m * up e) (down e) (zero-lt-suc 0) (down_pos e)
    (refl, refl) (refl, refl) ∙ le-leb (0 * down e) (m * up e * 1) (omega arith))

-- ---- -0.0, however its exponent is written
nothing_bits : (e : ℤ) → to_bits binary32 (fin true 0 e) ≡ 2147483648
unfolding to_bits
nothing_bits e =
    let none : 0 * up e * 2 ^ 149 / down e ≡ 0 = rw (zero-mul (up e), zero-mul (2 ^ 149)) (zero-div (down e)) in
    rw none refl

nothing_above : (e : ℤ) → le (of_bits binary32 0) (fin true 0 e) ≡ true
unfolding le lt eq of_bits
nothing_above e = rw (zero-mul (down e), zero-mul (up e)) refl

-- ---- below zero
abbrev digits : Float → ℕ
digits nan = 0
digits (inf s) = 0
digits (fin s m e) = m

-- only -0.0 has its bits
minus_bits : (m : ℕ) (e : ℤ) → T (fits binary32 (fin true (suc m) e)) → 2147483648 < to_bits binary32 (fin true (suc m) e)
unfolding to_bits of_bits
minus_bits m e f =
    let x = fin true (suc m) e in
    let other : to_bits binary32 x ≡ 2147483648 → ⊥ =
    λ i. omega (arith, ap digits (sym (of_bits-to_bits binary32 x f) ∙ ap (of_bits binary32) i)) in
    omega (arith, other)

minus_above : (m : ℕ) (e : ℤ) → le (of_bits binary32 0) (fin true (suc m) e) ≡ false
unfolding le lt eq of_bits
minus_above m e =
    let some : 0 < suc m * up e = mul-pos (zero-lt-suc m) (up_pos e) in
    rw (ne_eqb (0 * 1 * down e) (suc m * up e * 1) (λ i. omega arith)) refl

pub sign_bits : (x : Float) → T (fits binary32 x) → is_nan x ≡ false
    → leb (to_bits binary32 x) 2147483648 ≡ le (of_bits binary32 0) x
unfolding is_nan to_bits le lt eq of_bits
sign_bits nan f z = absurd (false≢true (sym z))
sign_bits (inf true) f z = refl
sign_bits (inf false) f z = refl
sign_bits (fin false m e) f z = rw (plus_above m e) (le-leb _ 2147483648 (plus_bits m e f))
sign_bits (fin true zero e) f z = rw (nothing_bits e, nothing_above e) refl
sign_bits (fin true (suc m) e) f z = rw (minus_above m e) (lt-leb _ 2147483648 (minus_bits m e f))
