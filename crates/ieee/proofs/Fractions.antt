-- Small laws of numbers: what is computed or tested of two fractions does not depend on how they are written.
use mathlib.Core.Path.{◌≡◌, refl, sym, ap, ◌∙◌}
use mathlib.Core.Bool.{Bool, true, false, ◌&&◌, ◌||◌, and-true}
use mathlib.Core.Logic.{inl, inr}
use Prim.Native.Nat.{ℕ, ◌+◌, ◌-◌, ◌*◌, ◌≤◌, ◌<◌}
use native.Mathlib.Nat.{mul-pos, mul-sub, mul-le-mul_right, mul-lt-mul_of_pos_right, lt_of_mul-lt-mul_right}
use native.Mathlib.Nat.{le_of_mul-le-mul_right, eq_of_mul-eq-mul_right, le_of_lt, le_of_eq, eq-or-lt_of_le}
use native.Mathlib.Omega.{arith}
use lib.Dec.{T, ltb, leb, eqb, leb→le, ltb→lt, lt→ltb, eqb→eq}
use lib.IntN.{ℤ}
use lib.Ieee.{down}
use lib.Ieee.Fits.{down_pos, eq→eqb}
use borrow.Author.Tests.{leb-true, leb-false, lt-ltb, le-ltb, eq-eqb, ne_eqb}

-- tests that pass together
agree : (s t : Bool) → (T s → T t) → (T t → T s) → s ≡ t
agree true true f g = refl
agree true false f g = absurd (f tt)
agree false true f g = absurd (g tt)
agree false false f g = refl

-- M / x is a / c, and N / y is b / d
module _ (M x N y a c b d : ℕ) (p : M * c ≡ a * x) (q : N * d ≡ b * y) where
  first : M * y * (c * d) ≡ a * d * (x * y)
  first = omega (arith, ap (λ z. z * (y * d)) p)

  second : N * x * (c * d) ≡ b * c * (x * y)
  second = omega (arith, ap (λ z. z * (x * c)) q)

  pub same_sum : (M * y + N * x) * (c * d) ≡ (a * d + b * c) * (x * y)
  same_sum = omega (arith, first, second)

  pub same_difference : (M * y - N * x) * (c * d) ≡ (a * d - b * c) * (x * y)
  same_difference = omega (arith, first, second, mul-sub (c * d) (M * y) (N * x), mul-sub (x * y) (a * d) (b * c))

  pub same_product : M * N * (c * d) ≡ a * b * (x * y)
  same_product = omega (arith, ap (λ z. z * (N * d)) p, ap (λ z. a * x * z) q)

  pub same_quotient : M * y * (b * c) ≡ a * d * (N * x)
  same_quotient = omega (arith, ap (λ z. z * (b * y)) p, ap (λ z. a * x * z) q)

  module _ (X : 0 < x) (Y : 0 < y) (C : 0 < c) (D : 0 < d) where
    pub same_lt : ltb (M * y) (N * x) ≡ ltb (a * d) (b * c)
    same_lt = agree (ltb (M * y) (N * x)) (ltb (a * d) (b * c))
        (λ t. lt→ltb (a * d) (b * c) (lt_of_mul-lt-mul_right (x * y)
        (omega (arith, first, second, mul-lt-mul_of_pos_right (ltb→lt (M * y) (N * x) t) (mul-pos C D)))))
        (λ t. lt→ltb (M * y) (N * x) (lt_of_mul-lt-mul_right (c * d)
        (omega (arith, first, second, mul-lt-mul_of_pos_right (ltb→lt (a * d) (b * c) t) (mul-pos X Y)))))

    pub same_eq : eqb (M * y) (N * x) ≡ eqb (a * d) (b * c)
    same_eq = agree (eqb (M * y) (N * x)) (eqb (a * d) (b * c))
        (λ t. eq→eqb (eq_of_mul-eq-mul_right (x * y) (mul-pos X Y) (a * d) (b * c)
        (sym first ∙ ap (λ z. z * (c * d)) (eqb→eq (M * y) (N * x) t) ∙ second)))
        (λ t. eq→eqb (eq_of_mul-eq-mul_right (c * d) (mul-pos C D) (M * y) (N * x)
        (first ∙ ap (λ z. z * (x * y)) (eqb→eq (a * d) (b * c) t) ∙ sym second)))

-- what a sum or a product of two floats is divided by
pub downs_pos : (e d : ℤ) → 0 < down e * down d
downs_pos e d = mul-pos (down_pos e) (down_pos d)

-- the test `le` makes on two values that are not negative
pub or_le : (a b : ℕ) → (ltb a b || eqb a b) ≡ leb a b
or_le a b = go (leb a b) refl
  where
    go : (t : Bool) → leb a b ≡ t → (ltb a b || eqb a b) ≡ t
    go false h = let k : b < a = leb-false a b h in rw (le-ltb a b (le_of_lt k), ne_eqb a b (λ e. omega arith)) refl
    go true h = elim (eq-or-lt_of_le (leb-true a b h)) [
      | inl e ↦ rw (le-ltb a b (le_of_eq (sym e)), eq-eqb a b e) refl
      | inr k ↦ rw (lt-ltb a b k) refl
    ]

-- and what it says
pub test_le : (a b : ℕ) → T (ltb a b || (eqb a b && true)) → a ≤ b
test_le a b h = leb→le a b (rw (and-true (eqb a b), or_le a b) at h)

-- M / x ≤ a / c ≤ A
pub le_whole : (M x a c A : ℕ) → 0 < c → M * c ≤ a * x → a ≤ A * c → M ≤ A * x
le_whole M x a c A C h k = let g : M * c ≤ A * x * c = omega (arith, mul-le-mul_right x k) in le_of_mul-le-mul_right g C

-- a / x = b / y = c / z
pub same_through : (a x b y c z : ℕ) → 0 < y → a * y ≡ b * x → b * z ≡ c * y → a * z ≡ c * x
same_through a x b y c z Y p q =
    eq_of_mul-eq-mul_right y Y (a * z) (c * x) (omega (arith, ap (λ w. w * z) p, ap (λ w. w * x) q))
