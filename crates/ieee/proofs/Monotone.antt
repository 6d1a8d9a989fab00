-- Sums and products of values that are not negative are monotone: they grow, by size, with each of their operands.
use mathlib.Core.Path.{refl, sym}
use mathlib.Core.Bool.{Bool, true, false, cond, ◌&&◌}
use Prim.Native.Nat.{ℕ, ◌+◌, ◌*◌, ◌≤◌}
use native.Mathlib.Nat.{le_of_eq, mul-le-mul_left, mul-le-mul_right}
use native.Mathlib.Omega.{arith}
use lib.Dec.{T, eqb}
use lib.IntN.{ℤ}
use lib.Ieee.{Float, nan, inf, fin, Format, up, down, round, add, mul, fits, unlike}
use lib.Ieee.Fits.{down_pos}
use lib.Ieee.Exact.{HasValue}
use Rattle.ieee.specs.Bounds.{NotNeg, Under, Within}
use Rattle.ieee.proofs.Fractions.{downs_pos}
use Rattle.ieee.proofs.Signs.{round_cases, add_is, mul_not_neg}
use Rattle.ieee.proofs.Scaling.{fits_exact}
use Rattle.ieee.proofs.Grows.{Grows, grows_trans, round_grows}

-- rounding never gives nan
round_inf : (f : Format) (s t : Bool) (a c : ℕ) → Grows (round f s a c) (inf t)
round_inf f s t a c = round_cases f s s a c (λ x y. Grows x (inf t)) tt (λ m e. tt)

or_nan : (b : Bool) (x y : Float) → Grows x y → Grows x (cond b nan y)
or_nan true x y g = tt
or_nan false x y g = g

-- a product grows with its second factor, where the first is finite
pub mul_grows : (f : Format) (l x y : Float) (A : ℕ) → Under l A → Grows x y → Grows (mul f l x) (mul f l y)
mul_grows f nan x y A u g = elim u [ ]
mul_grows f (inf _) x y A u g = elim u [ ]
mul_grows f (fin s m e) nan (inf t) A u g = elim g [ ]
mul_grows f (fin s m e) nan (fin t n d) A u g = elim g [ ]
mul_grows f (fin s m e) (inf r) (fin t n d) A u g = elim g [ ]
mul_grows f (fin s m e) x nan A u g = unfold mul in tt
mul_grows f (fin s m e) (inf r) (inf t) A u g = unfold mul in (both (eqb m 0))
  where
    both : (b : Bool) → Grows (cond b nan (inf (unlike s r))) (cond b nan (inf (unlike s t)))
    both true = tt
    both false = tt
mul_grows f (fin s m e) (fin r k c) (inf t) A u g =
    unfold mul in (or_nan (eqb m 0) _ (inf (unlike s t)) (round_inf f (unlike s r) (unlike s t) _ _))
mul_grows f (fin s m e) (fin r k c) (fin t n d) A u g =
    unfold mul in
    (round_grows f (unlike s r) (unlike s t) _ _ _ _ (downs_pos e c) (downs_pos e d)
    (omega (arith, mul-le-mul_left (m * up e * down e) g)))

-- A / x ≤ A' / x' and B / y ≤ B' / y', so their sums
sum_le : (A x A' x' B y B' y' : ℕ) → A * x' ≤ A' * x → B * y' ≤ B' * y
    → (A * y + B * x) * (x' * y') ≤ (A' * y' + B' * x') * (x * y)
sum_le A x A' x' B y B' y' h k = omega (arith, mul-le-mul_right (y * y') h, mul-le-mul_right (x * x') k)

-- no nan from values that are none
sum_inf : (f : Format) (x y : Float) (s t u : Bool) → NotNeg x → NotNeg y → Grows x (inf s) → Grows y (inf t)
    → Grows (add f x y) (inf u)
sum_inf f nan y s t u p q g h = elim g [ ]
sum_inf f (inf r) nan s t u p q g h = elim h [ ]
sum_inf f (fin r m e) nan s t u p q g h = elim h [ ]
sum_inf f (inf r) (inf v) s t u p q g h = unfold add in (rw (p, q) tt)
sum_inf f (inf r) (fin v n d) s t u p q g h = unfold add in tt
sum_inf f (fin r m e) (inf v) s t u p q g h = unfold add in tt
sum_inf f (fin r m e) (fin v n d) s t u p q g h = rw (add_is f r v m n e d p q).0 (round_inf f (r && v) u _ _)

-- a sum grows with each of its terms
pub add_grows : (f : Format) (x x' y y' : Float) → NotNeg x → NotNeg x' → NotNeg y → NotNeg y' → Grows x x' → Grows y y'
    → Grows (add f x y) (add f x' y')
add_grows f x nan y y' p p' q q' g h = unfold add in tt
add_grows f x (inf s) y nan p p' q q' g h = unfold add in tt
add_grows f x (inf s) y (inf t) p p' q q' g h = unfold add in (rw (p', q') (sum_inf f x y s t false p q g h))
add_grows f x (inf s) y (fin t n d) p p' q q' g h =
    unfold add in (sum_inf f x y s t s p q g (grows_trans y (fin t n d) (inf t) h tt))
add_grows f x (fin s m e) y nan p p' q q' g h = unfold add in tt
add_grows f x (fin s m e) y (inf t) p p' q q' g h =
    unfold add in (sum_inf f x y s t t p q (grows_trans x (fin s m e) (inf s) g tt) h)
add_grows f nan (fin s m e) y (fin t n d) p p' q q' g h = elim g [ ]
add_grows f (inf _) (fin s m e) y (fin t n d) p p' q q' g h = elim g [ ]
add_grows f (fin r k c) (fin s m e) nan (fin t n d) p p' q q' g h = elim h [ ]
add_grows f (fin r k c) (fin s m e) (inf _) (fin t n d) p p' q q' g h = elim h [ ]
add_grows f (fin r k c) (fin s m e) (fin v j b) (fin t n d) p p' q q' g h =
    rw ((add_is f r v k j c b p q).0, (add_is f s t m n e d p' q').0)
    (round_grows f (r && v) (s && t) _ _ _ _ (downs_pos c b) (downs_pos e d)
    (sum_le (k * up c) (down c) (m * up e) (down e) (j * up b) (down b) (n * up d) (down d) g h))

-- a value that fits does not shrink when it is rounded
self_grows : (f : Format) (u s : Bool) (m : ℕ) (e : ℤ) → T (fits f (fin s m e))
    → Grows (fin s m e) (round f u (m * up e) (down e))
self_grows f u s m e t = go (round f u (m * up e) (down e)) (fits_exact f u s m e (m * up e) (down e) t (down_pos e) refl)
  where
    go : (x : Float) → HasValue x u (m * up e) (down e) → Grows (fin s m e) x
    go nan v = elim v [ ]
    go (inf _) v = elim v [ ]
    go (fin r n d) v = le_of_eq (sym v.1)

-- a sum is at least its first term
pub add_self : (f : Format) (x y : Float) → NotNeg x → NotNeg y → T (fits f x) → Grows x (add f x y)
add_self f nan y p q t = unfold add in tt
add_self f (inf s) nan p q t = unfold add in tt
add_self f (inf s) (inf r) p q t = unfold add in (rw (p, q) tt)
add_self f (inf s) (fin r n d) p q t = unfold add in tt
add_self f (fin s m e) nan p q t = unfold add in tt
add_self f (fin s m e) (inf r) p q t = unfold add in tt
add_self f (fin s m e) (fin r n d) p q t =
    rw (add_is f s r m n e d p q).0
    (grows_trans (fin s m e) (round f (s && r) (m * up e) (down e))
    (round f (s && r) (m * up e * down d + n * up d * down e) (down e * down d)) (self_grows f (s && r) s m e t)
    (round_grows f (s && r) (s && r) _ _ _ _ (down_pos e) (downs_pos e d)
    (more (m * up e) (down e) (down d) (n * up d * down e))))
  where
    more : (M x d k : ℕ) → M * (x * d) ≤ (M * d + k) * x
    more M x d k = omega arith

-- a total d + l * r grows with d and r
pub total_grows : (f : Format) (l d d' r r' : Float) (A : ℕ) → Within l A → NotNeg d → NotNeg d' → NotNeg r → NotNeg r'
    → Grows d d' → Grows r r' → Grows (add f d (mul f l r)) (add f d' (mul f l r'))
total_grows f l d d' r r' A w p p' q q' g h =
    add_grows f d d' (mul f l r) (mul f l r') p p' (mul_not_neg f l r w.1 q) (mul_not_neg f l r' w.1 q') g
    (mul_grows f l r r' A w.0 h)
