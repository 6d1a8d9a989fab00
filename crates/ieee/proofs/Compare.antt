-- The order of finite floats: `lt y x ≡ false` says x ≤ y.
use mathlib.Core.Path.{◌≡◌, refl}
use mathlib.Core.Bool.{Bool, true, false, false≢true}
use Prim.Native.Nat.{ℕ, zero, suc, ◌+◌, ◌*◌, ◌≤◌, ◌<◌, zero-le}
use native.Mathlib.Nat.{le_refl, le_of_lt, le_antisymm, mul-pos, zero-lt-suc, zero-mul}
use native.Mathlib.Omega.{arith}
use lib.Dec.{ltb}
use lib.Ieee.{Float, nan, inf, fin, up, down, below, level, lt, eq}
use lib.Ieee.Fits.{down_pos}
use lib.Ieee.Positive.{through}
use borrow.Author.Tests.{ltb-true, ltb-false, le-ltb, eq-eqb}
use Rattle.ieee.specs.Bounds.{Under}

zero_of : (a d : ℕ) → 0 < d → a * d ≤ 0 → a ≡ 0
zero_of zero d D h = refl
zero_of (suc a) d D h = absurd (omega (arith, mul-pos (zero-lt-suc a) D))

-- no less than zero and no more
none : (a b c d : ℕ) → 0 < c → 0 < d → ltb 0 (a * c + b * d) ≡ false → (a ≡ 0) × (b ≡ 0)
none a b c d C D h =
    let sum : a * c + b * d ≤ 0 = ltb-false 0 (a * c + b * d) h in
    (zero_of a c C (omega (arith, sum)), zero_of b d D (omega (arith, sum)))

-- a / p ≤ b / q ≤ c / r, each with its sign
below_trans : (s t u : Bool) (a b c p q r : ℕ) → 0 < p → 0 < q → 0 < r
    → below t (b * p) s (a * q) ≡ false → below u (c * q) t (b * r) ≡ false → below u (c * p) s (a * r) ≡ false
below_trans false false false a b c p q r P Q R h k =
    le-ltb (c * p) (a * r) (through a b c p q r Q (ltb-false (b * p) (a * q) h) (ltb-false (c * q) (b * r) k))
below_trans true true true a b c p q r P Q R h k =
    le-ltb (a * r) (c * p) (through c b a r q p Q (ltb-false (b * r) (c * q) k) (ltb-false (a * q) (b * p) h))
below_trans true false false a b c p q r P Q R h k = refl
below_trans true true false a b c p q r P Q R h k = refl
below_trans false true false a b c p q r P Q R h k =
    let z = none b a p q P Q h in rw (z.1, zero-mul r) (le-ltb (c * p) 0 zero-le)
below_trans false true true a b c p q r P Q R h k =
    let z = none b a p q P Q h in
    let y : c ≡ 0 = zero_of c q Q (rw (z.0, zero-mul r) at (ltb-false (b * r) (c * q) k)) in
    rw (z.1, y, zero-mul r, zero-mul p) refl
below_trans false false true a b c p q r P Q R h k =
    let z = none c b q r Q R k in
    let x : a ≡ 0 = zero_of a q Q (rw (z.1, zero-mul p) at (ltb-false (b * p) (a * q) h)) in
    rw (x, z.0, zero-mul r, zero-mul p) refl
below_trans true false true a b c p q r P Q R h k =
    let z = none c b q r Q R k in rw (z.0, zero-mul p) (le-ltb (a * r) 0 zero-le)

below_asym : (s t : Bool) (a b : ℕ) → below s a t b ≡ true → below t b s a ≡ false
below_asym false false a b h = le-ltb b a (le_of_lt (ltb-true a b h))
below_asym true true a b h = le-ltb a b (le_of_lt (ltb-true b a h))
below_asym true false a b h = refl
below_asym false true a b h = absurd (false≢true h)

below_tie : (s t : Bool) (a b : ℕ) → below s a t b ≡ false → below t b s a ≡ false → level s a t b ≡ true
below_tie false false a b h k = rw (eq-eqb a b (le_antisymm (ltb-false b a k) (ltb-false a b h))) refl
below_tie true true a b h k = rw (eq-eqb a b (le_antisymm (ltb-false b a h) (ltb-false a b k))) refl
below_tie true false a b h k = both a b (ltb-false 0 (a + b) h)
  where
    both : (a b : ℕ) → a + b ≤ 0 → level true a false b ≡ true
    both zero zero h = refl
    both zero (suc b) h = absurd (omega arith)
    both (suc a) b h = absurd (omega arith)
below_tie false true a b h k = both a b (ltb-false 0 (b + a) k)
  where
    both : (a b : ℕ) → b + a ≤ 0 → level false a true b ≡ true
    both zero zero h = refl
    both zero (suc b) h = absurd (omega arith)
    both (suc a) b h = absurd (omega arith)

-- no float is below itself
pub lt_itself : (x : Float) → lt x x ≡ false
unfolding lt
lt_itself nan = refl
lt_itself (inf true) = refl
lt_itself (inf false) = refl
lt_itself (fin true m e) = le-ltb (m * up e * down e) (m * up e * down e) (le_refl (m * up e * down e))
lt_itself (fin false m e) = le-ltb (m * up e * down e) (m * up e * down e) (le_refl (m * up e * down e))

abbrev pub Finite : Float → Type 0
Finite nan = ⊥
Finite (inf s) = ⊥
Finite (fin s m e) = Unit {0}

pub under_finite : (x : Float) (A : ℕ) → Under x A → Finite x
under_finite nan A u = elim u [ ]
under_finite (inf _) A u = elim u [ ]
under_finite (fin s m e) A u = tt

pub at_most_trans : (x y z : Float) → Finite x → Finite y → Finite z → lt y x ≡ false → lt z y ≡ false → lt z x ≡ false
unfolding lt
at_most_trans nan y z X Y Z h l = elim X [ ]
at_most_trans (inf _) y z X Y Z h l = elim X [ ]
at_most_trans (fin s m e) nan z X Y Z h l = elim Y [ ]
at_most_trans (fin s m e) (inf _) z X Y Z h l = elim Y [ ]
at_most_trans (fin s m e) (fin t n d) nan X Y Z h l = elim Z [ ]
at_most_trans (fin s m e) (fin t n d) (inf _) X Y Z h l = elim Z [ ]
at_most_trans (fin s m e) (fin t n d) (fin u k g) X Y Z h l =
    below_trans s t u (m * up e) (n * up d) (k * up g) (down e) (down d) (down g) (down_pos e) (down_pos d) (down_pos g) h l

pub lt_asym : (x y : Float) → Finite x → Finite y → lt x y ≡ true → lt y x ≡ false
unfolding lt
lt_asym nan y X Y h = elim X [ ]
lt_asym (inf _) y X Y h = elim X [ ]
lt_asym (fin s m e) nan X Y h = elim Y [ ]
lt_asym (fin s m e) (inf _) X Y h = elim Y [ ]
lt_asym (fin s m e) (fin t n d) X Y h = below_asym s t (m * up e * down d) (n * up d * down e) h

pub lt_tie : (x y : Float) → Finite x → Finite y → lt x y ≡ false → lt y x ≡ false → eq x y ≡ true
unfolding lt eq
lt_tie nan y X Y h k = elim X [ ]
lt_tie (inf _) y X Y h k = elim X [ ]
lt_tie (fin s m e) nan X Y h k = elim Y [ ]
lt_tie (fin s m e) (inf _) X Y h k = elim Y [ ]
lt_tie (fin s m e) (fin t n d) X Y h k = below_tie s t (m * up e * down d) (n * up d * down e) h k
