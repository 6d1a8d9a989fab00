-- `Grows`, the order by size: a test `le` gives it, rounding keeps it, and what has reached a limit stays there.
use mathlib.Core.Path.{◌≡◌, refl}
use mathlib.Core.Bool.{Bool, true, false, true≢false}
use mathlib.Core.Logic.{inl, inr}
use Prim.Native.Nat.{ℕ, ◌+◌, ◌*◌, ◌≤◌, ◌<◌, zero-le}
use native.Mathlib.Nat.{le_refl, le_of_eq, zero-mul}
use native.Mathlib.Omega.{arith}
use lib.Dec.{T, eqb, eqb→eq}
use lib.Ieee.{Float, nan, inf, fin, Format, up, down, round, lt, eq, le}
use lib.Ieee.Fits.{down_pos, and_l}
use lib.Ieee.Order.{round_mono}
use lib.Ieee.Positive.{through}
use borrow.Author.Tests.{le-ltb}
use Rattle.ieee.specs.Bounds.{NotNeg}
use Rattle.ieee.proofs.Fractions.{test_le}
use Rattle.ieee.proofs.Signs.{resign, round_resign, round_not_neg}

-- y is at least x in size, whatever the signs; nan counts as larger than all
abbrev pub Grows : Float → Float → Type 0
Grows x nan = Unit {0}
Grows nan (inf t) = ⊥
Grows (inf s) (inf t) = Unit {0}
Grows (fin s m e) (inf t) = Unit {0}
Grows nan (fin t n d) = ⊥
Grows (inf s) (fin t n d) = ⊥
Grows (fin s m e) (fin t n d) = m * up e * down d ≤ n * up d * down e

pub grows_refl : (x : Float) → Grows x x
grows_refl nan = tt
grows_refl (inf s) = tt
grows_refl (fin s m e) = le_refl (m * up e * down e)

pub grows_trans : (x y z : Float) → Grows x y → Grows y z → Grows x z
grows_trans x y nan p q = tt
grows_trans nan (inf s) (inf t) p q = elim p [ ]
grows_trans nan (fin s m e) (inf t) p q = elim p [ ]
grows_trans nan (inf s) (fin t n d) p q = elim p [ ]
grows_trans nan (fin s m e) (fin t n d) p q = elim p [ ]
grows_trans (inf r) nan (fin t n d) p q = elim q [ ]
grows_trans (inf r) (fin s m e) (fin t n d) p q = elim p [ ]
grows_trans (fin r k g) nan (fin t n d) p q = elim q [ ]
grows_trans (fin r k g) (inf s) (fin t n d) p q = elim q [ ]
grows_trans nan nan (inf t) p q = q
grows_trans (inf r) y (inf t) p q = tt
grows_trans (fin r k g) y (inf t) p q = tt
grows_trans nan nan (fin t n d) p q = q
grows_trans (inf r) (inf s) (fin t n d) p q = q
grows_trans (fin r k g) (fin s m e) (fin t n d) p q =
    through (k * up g) (m * up e) (n * up d) (down g) (down e) (down d) (down_pos e) p q

-- signs play no part
grows_resign : (s t : Bool) (x y : Float) → Grows x y → Grows (resign s x) (resign t y)
grows_resign s t nan (inf v) p = elim p [ ]
grows_resign s t nan (fin v n d) p = elim p [ ]
grows_resign s t (inf u) (fin v n d) p = elim p [ ]
grows_resign s t x nan p = tt
grows_resign s t (inf u) (inf v) p = tt
grows_resign s t (fin u m e) (inf v) p = tt
grows_resign s t (fin u m e) (fin v n d) p = p

-- less or equal, of two values that are not negative
pub grows_of_le : (x y : Float) → NotNeg x → NotNeg y → T (le x y) → Grows x y
unfolding le lt eq
grows_of_le x nan p q h = tt
grows_of_le nan (inf t) p q h = absurd h
grows_of_le (inf s) (inf t) p q h = tt
grows_of_le (fin s m e) (inf t) p q h = tt
grows_of_le nan (fin t n d) p q h = absurd h
grows_of_le (inf s) (fin t n d) p q h = absurd (rw p at h)
grows_of_le (fin true m e) (fin t n d) (inl p) q h = absurd (true≢false p)
grows_of_le (fin true m e) (fin t n d) (inr p) q h = simp (p, zero-mul) zero-le
grows_of_le (fin false m e) (fin true n d) p (inl q) h = absurd (true≢false q)
grows_of_le (fin false m e) (fin true n d) p (inr q) h =
    le_of_eq (eqb→eq _ _ (and_l (eqb (m * up e * down d) (n * up d * down e)) (eqb (m * up e * down d) 0) h))
grows_of_le (fin false m e) (fin false n d) p q h = test_le (m * up e * down d) (n * up d * down e) h

-- rounding keeps the order
pub round_grows : (f : Format) (s t : Bool) (a b c d : ℕ) → 0 < b → 0 < d → a * d ≤ c * b
    → Grows (round f s a b) (round f t c d)
round_grows f s t a b c d B D h =
    rw (← round_resign f s false a b, ← round_resign f t false c d)
    (grows_resign s t (round f false a b) (round f false c d)
    (grows_of_le (round f false a b) (round f false c d) (round_not_neg f false a b B (inl refl))
    (round_not_neg f false c d D (inl refl)) (round_mono f a b c d B D h)))

-- what has grown from the limit l, where that is not negative, is not below it
not_below : (l y : Float) → NotNeg y → (NotNeg l → Grows l y) → lt y l ≡ false
unfolding lt
not_below l nan q g = refl
not_below nan (inf t) q g = refl
not_below (inf s) (inf t) q g = rw q refl
not_below (fin s m e) (inf t) q g = q
not_below nan (fin t n d) q g = refl
not_below (inf true) (fin t n d) q g = refl
not_below (inf false) (fin t n d) q g = absurd (g refl)
not_below (fin false m e) (fin false n d) q g = le-ltb _ _ (g (inl refl))
not_below (fin true m e) (fin false n d) q g = refl
not_below (fin s m e) (fin true n d) (inl q) g = absurd (true≢false q)
not_below (fin false m e) (fin true n d) (inr q) g =
    let k : n * up d * down e ≡ 0 = simp (q, zero-mul) in
    le-ltb 0 (n * up d * down e + m * up e * down d) (omega (arith, g (inl refl)))
not_below (fin true m e) (fin true n d) (inr q) g = simp (q, zero-mul) (le-ltb (m * up e * down d) 0 zero-le)

-- what has reached the limit l has not fallen below it when it has grown
pub stays : (l x y : Float) → le l x ≡ true → NotNeg x → NotNeg y → Grows x y → lt y l ≡ false
stays l x y h p q g = not_below l y q (λ n. grows_trans l x y (grows_of_le l x n p (rw h tt)) g)
