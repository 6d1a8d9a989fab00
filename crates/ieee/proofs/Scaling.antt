-- A value that fits is a number of few digits times a power of two of units, so any fraction that equals it is exact.
use mathlib.Core.Path.{◌≡◌, sym, ap, ◌∙◌}
use mathlib.Core.Bool.{Bool, ◌&&◌}
use Prim.Native.Nat.{ℕ, zero, suc, ◌+◌, ◌-◌, ◌*◌, ◌%◌, ◌^◌, ◌≤◌, ◌<◌}
use native.Mathlib.Nat.{zero-mul, mul-lt-mul_of_pos_right, lt_of_mul-lt-mul_right, lt_of_not-le, not-le_of_lt}
use native.Mathlib.Nat.{le_of_suc-le-suc}
use native.Mathlib.Omega.{arith}
use lib.Dec.{T, ltb, leb, eqb, ltb→lt, leb→le}
use lib.IntN.{ℤ, pos, negsuc}
use lib.Pow.{pow-add, pow_pos, pow-lt}
use lib.Ieee.{fin, Format, prec, emax, low, up, down, round, fits}
use lib.Ieee.Fits.{down_pos, and_l, and_r}
use lib.Ieee.Exact.{HasValue, round_exact}
use Rattle.ieee.proofs.Fractions.{same_through}

-- m * 2 ^ e is m * 2 ^ shift of the format's units, with m of few digits, and in range
pub record Units (f : Format) (m : ℕ) (e : ℤ) : Type 0 where
  pub few : m < 2 ^ prec f
  pub shift : ℕ
  pub is : m * up e * 2 ^ low f ≡ m * 2 ^ shift * down e
  pub below : m * 2 ^ shift < 2 ^ (low f + suc (emax f))

shift_of : (m l : ℕ) (e : ℤ) → down e ≤ 2 ^ l → (j : ℕ) × (m * up e * 2 ^ l ≡ m * 2 ^ j * down e)
shift_of m l (pos k) h = (k + l, omega (arith, ap (λ z. m * z) (pow-add 2 k l)))
shift_of m l (negsuc k) h =
    let g : suc k ≤ l = le_of_suc-le-suc (lt_of_not-le (λ (n : suc l ≤ suc k). not-le_of_lt (pow-lt n) h)) in
    let i : l - suc k + suc k ≡ l = omega arith in
    (l - suc k, omega (arith, ap (λ z. m * z) (sym (pow-add 2 (l - suc k) (suc k)) ∙ ap (λ z. 2 ^ z) i)))

pub fits_units : (f : Format) (s : Bool) (m : ℕ) (e : ℤ) → T (fits f (fin s m e)) → Units f m e
unfolding fits
fits_units f s zero e t =
    record { few = pow_pos (prec f); shift = 0; is = simp zero-mul; below = pow_pos (low f + suc (emax f)) }
fits_units f s (suc m) e t =
    let b = ltb (suc m) (2 ^ prec f) in
    let c = leb (down e) (2 ^ low f) in
    let d = ltb (suc m * up e) (2 ^ suc (emax f) * down e) in
    let ab = eqb (suc m % 2) 1 && b in
    let j = shift_of (suc m) (low f) e (leb→le (down e) (2 ^ low f) (and_r ab c (and_l (ab && c) d t))) in
    let h = ltb→lt (suc m * up e) (2 ^ suc (emax f) * down e) (and_r (ab && c) d t) in
    let k : suc m * 2 ^ j.0 * down e < 2 ^ (low f + suc (emax f)) * down e =
    rw (pow-add 2 (low f) (suc (emax f))) (omega (arith, j.1, mul-lt-mul_of_pos_right h (pow_pos (low f)))) in
    let g = ltb→lt (suc m) (2 ^ prec f) (and_r (eqb (suc m % 2) 1) b (and_l ab c (and_l (ab && c) d t))) in
    record { few = g; shift = j.0; is = j.1; below = lt_of_mul-lt-mul_right (down e) k }

-- any fraction that equals a value that fits rounds to itself
pub fits_exact : (f : Format) (s s' : Bool) (m : ℕ) (e : ℤ) (num den : ℕ) → T (fits f (fin s' m e)) → 0 < den
    → num * down e ≡ m * up e * den → HasValue (round f s num den) s num den
fits_exact f s s' m e num den t D h =
    let u = fits_units f s' m e t in
    round_exact f s num den m u.shift D u.few u.below
    (same_through num den (m * up e) (down e) (m * 2 ^ u.shift) (2 ^ low f) (down_pos e) h u.is)
