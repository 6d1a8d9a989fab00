-- Values of either sign as a difference of two numbers of units: x is (p - n) * 2 ^ -low. A sum of two of them is rounded
-- by half of 2 ^ d units at most, and `lt` is the order of the differences.
use mathlib.Core.Path.{◌≡◌, refl, ap}
use mathlib.Core.Bool.{Bool, true, false, false≢true}
use Prim.Native.Nat.{ℕ, suc, ◌+◌, ◌-◌, ◌*◌, ◌^◌, ◌≤◌, ◌<◌}
use native.Mathlib.Nat.{mul_comm, mul-le-mul_right, le_of_mul-le-mul_right, mul-lt-mul_of_pos_right}
use native.Mathlib.Nat.{lt_of_mul-lt-mul_right}
use native.Mathlib.Omega.{arith}
use lib.Dec.{ltb}
use lib.IntN.{ℤ}
use lib.Pow.{pow_pos}
use lib.Ieee.{Float, nan, inf, fin, Format, prec, emax, low, up, down, round, sum, add, neg, sub, below, lt}
use lib.Ieee.Exact.{HasValue}
use borrow.Author.Tests.{ltb-true, ltb-false}
use Rattle.ieee.proofs.Fractions.{downs_pos}
use Rattle.ieee.proofs.Signs.{resign, round_resign}
use Rattle.ieee.proofs.Near.{round_near}

-- a / c with the sign s is (p - n) / L
abbrev pub Rel : ℕ → Bool → ℕ → ℕ → ℕ → ℕ → Type 0
Rel L false a c p n = a * L + n * c ≡ p * c
Rel L true a c p n = a * L + p * c ≡ n * c

abbrev pub Is : Format → Float → ℕ → ℕ → Type 0
Is f nan p n = ⊥
Is f (inf s) p n = ⊥
Is f (fin s m e) p n = Rel (2 ^ low f) s (m * up e) (down e) p n

pub is_plus : (f : Format) (x : Float) (v : ℕ) → HasValue x false v (2 ^ low f) → Is f x v 0
is_plus f nan v h = elim h [ ]
is_plus f (inf _) v h = elim h [ ]
is_plus f (fin s m e) v h = rw h.0 (omega (arith, h.1))

is_minus : (f : Format) (x : Float) (v : ℕ) → HasValue x false v (2 ^ low f) → Is f (resign true x) 0 v
is_minus f nan v h = elim h [ ]
is_minus f (inf _) v h = elim h [ ]
is_minus f (fin s m e) v h = omega (arith, h.1)

-- over a longer denominator
wider : (L : ℕ) (s : Bool) (a c d p n : ℕ) → Rel L s a c p n → Rel L s (a * d) (c * d) p n
wider L false a c d p n e = omega (arith, ap (λ z. z * d) e)
wider L true a c d p n e = omega (arith, ap (λ z. z * d) e)

-- ---- rounding
-- x is (P - N) units, within half of K of p - n
pub record NearTo (f : Format) (x : Float) (p n K : ℕ) : Type 0 where
  pub P : ℕ
  pub N : ℕ
  pub is : Is f x P N
  pub over : 2 * (P + n) ≤ 2 * (p + N) + K
  pub under : 2 * (p + N) ≤ 2 * (P + n) + K

-- v units for a / c
module _ (L c v a p n K : ℕ) (C : 0 < c) (e : a * L + n * c ≡ p * c) where
  over : 2 * (v * c) ≤ 2 * (a * L) + c * K → 2 * (v + n) ≤ 2 * p + K
  over h = let g : 2 * (v + n) * c ≤ (2 * p + K) * c = omega arith in le_of_mul-le-mul_right g C

  under : 2 * (a * L) ≤ 2 * (v * c) + c * K → 2 * p ≤ 2 * (v + n) + K
  under h = let g : 2 * p * c ≤ (2 * (v + n) + K) * c = omega arith in le_of_mul-le-mul_right g C

at_most : (L a c p n M : ℕ) → 0 < L → a * L + n * c ≡ p * c → p ≤ n + M * L → a ≤ M * c
at_most L a c p n M l e h =
    let g : a * L ≤ M * c * L = omega (arith, mul-le-mul_right c h) in le_of_mul-le-mul_right g l

module _ (f : Format) (j : ℕ) (r : j < emax f) where
  abbrev L : ℕ
  L = 2 ^ low f

  abbrev K : ℕ
  K = 2 ^ (suc (j + low f) - prec f)

  rounded : (s : Bool) (a c p n : ℕ) → 0 < c → Rel L s a c p n → p ≤ n + 2 ^ j * L → n ≤ p + 2 ^ j * L
      → NearTo f (round f s a c) p n K
  rounded false a c p n C e h k =
      let w = round_near f a c j C (at_most L a c p n (2 ^ j) (pow_pos (low f)) e h) r in
      record {
        P = w.v;
        N = 0;
        is = is_plus f (round f false a c) w.v w.value;
        over = omega (arith, over L c w.v a p n K C e w.over);
        under = omega (arith, under L c w.v a p n K C e w.under);
      }
  rounded true a c p n C e h k =
      let w = round_near f a c j C (at_most L a c n p (2 ^ j) (pow_pos (low f)) e k) r in
      record {
        P = 0;
        N = w.v;
        is = rw (← round_resign f true false a c) (is_minus f (round f false a c) w.v w.value);
        over = omega (arith, under L c w.v a n p K C e w.under);
        under = omega (arith, over L c w.v a n p K C e w.over);
      }

-- ---- sums: d / c with the sign u, for a / c with s and b / c with t
record Sum (f : Format) (s : Bool) (a : ℕ) (t : Bool) (b c p n : ℕ) : Type 0 where
  u : Bool
  d : ℕ
  is : sum f s a t b c ≡ round f u d c
  rel : Rel (2 ^ low f) u d c p n

-- x is b - a
less : (L x a b c p n p' n' s t : ℕ) → x + a ≡ b → a * L + n * c ≡ p * c → b * L + n' * c ≡ p' * c
    → s ≡ p + n' → t ≡ p' + n → x * L + s * c ≡ t * c
less L x a b c p n p' n' s t q e d g h = rw (g, h) (omega (arith, ap (λ z. z * L) q))

sum_is : (f : Format) (s t : Bool) (a b c p n p' n' : ℕ) → Rel (2 ^ low f) s a c p n → Rel (2 ^ low f) t b c p' n'
    → Sum f s a t b c (p + p') (n + n')
unfolding sum
sum_is f false false a b c p n p' n' e d = record { u = false; d = a + b; is = refl; rel = omega arith }
sum_is f true true a b c p n p' n' e d = record { u = true; d = a + b; is = refl; rel = omega arith }
sum_is f false true a b c p n p' n' e d = go (ltb a b) refl
  where
    go : (t : Bool) → ltb a b ≡ t → Sum f false a true b c (p + p') (n + n')
    go true l =
        let q : b - a + a ≡ b = omega (arith, ltb-true a b l) in
        record { u = true; d = b - a; is = rw l refl; rel = less _ (b - a) a b c p n n' p' _ _ q e d refl (omega arith) }
    go false l =
        let q : a - b + b ≡ a = omega (arith, ltb-false a b l) in
        record { u = false; d = a - b; is = rw l refl; rel = less _ (a - b) b a c n' p' p n _ _ q d e (omega arith) refl }
sum_is f true false a b c p n p' n' e d = go (ltb a b) (ltb b a) refl refl
  where
    go : (t u : Bool) → ltb a b ≡ t → ltb b a ≡ u → Sum f true a false b c (p + p') (n + n')
    go true u l m =
        let q : b - a + a ≡ b = omega (arith, ltb-true a b l) in
        record { u = false; d = b - a; is = rw l refl; rel = less _ (b - a) a b c n p p' n' _ _ q e d refl (omega arith) }
    go false true l m =
        let q : a - b + b ≡ a = omega (arith, ltb-false a b l) in
        record { u = true; d = a - b; is = rw (l, m) refl; rel = less _ (a - b) b a c p' n' n p _ _ q d e (omega arith) refl }
    go false false l m =
        let q : a - b + a ≡ b = omega (arith, ltb-false a b l, ltb-false b a m) in
        record { u = false; d = a - b; is = rw (l, m) refl; rel = less _ (a - b) a b c n p p' n' _ _ q e d refl (omega arith) }

-- two floats over one denominator
module _ (f : Format) (s t : Bool) (m l : ℕ) (e d : ℤ) (p n p' n' : ℕ) (x : Is f (fin s m e) p n)
    (y : Is f (fin t l d) p' n') where
  first : Rel (2 ^ low f) s (m * up e * down d) (down e * down d) p n
  first = wider (2 ^ low f) s (m * up e) (down e) (down d) p n x

  second : Rel (2 ^ low f) t (l * up d * down e) (down e * down d) p' n'
  second = rw (mul_comm (down e) (down d)) (wider (2 ^ low f) t (l * up d) (down d) (down e) p' n' y)

module _ (f : Format) (j : ℕ) (r : j < emax f) where
  -- the sum of (p - n) and (p' - n') units, of at most 2 ^ j in size
  pub add_near : (x y : Float) (p n p' n' : ℕ) → Is f x p n → Is f y p' n' → p + p' ≤ n + n' + 2 ^ j * 2 ^ low f
      → n + n' ≤ p + p' + 2 ^ j * 2 ^ low f → NearTo f (add f x y) (p + p') (n + n') (2 ^ (suc (j + low f) - prec f))
  unfolding add
  add_near nan y p n p' n' a b h k = elim a [ ]
  add_near (inf _) y p n p' n' a b h k = elim a [ ]
  add_near (fin s m e) nan p n p' n' a b h k = elim b [ ]
  add_near (fin s m e) (inf _) p n p' n' a b h k = elim b [ ]
  add_near (fin s m e) (fin t l d) p n p' n' a b h k =
      let z = sum_is f s t _ _ _ p n p' n' (first f s t m l e d p n p' n' a b) (second f s t m l e d p n p' n' a b) in
      rw z.is (rounded f j r z.u z.d (down e * down d) (p + p') (n + n') (downs_pos e d) z.rel h k)

  neg_is : (x : Float) (p n : ℕ) → Is f x p n → Is f (neg x) n p
  unfolding neg
  neg_is nan p n a = elim a [ ]
  neg_is (inf _) p n a = elim a [ ]
  neg_is (fin false m e) p n a = a
  neg_is (fin true m e) p n a = a

  pub sub_near : (x y : Float) (p n p' n' : ℕ) → Is f x p n → Is f y p' n' → p + n' ≤ n + p' + 2 ^ j * 2 ^ low f
      → n + p' ≤ p + n' + 2 ^ j * 2 ^ low f → NearTo f (sub f x y) (p + n') (n + p') (2 ^ (suc (j + low f) - prec f))
  unfolding sub
  sub_near x y p n p' n' a b h k = add_near x (neg y) p n n' p' a (neg_is y p' n' b) h k

-- ---- the test `lt`
below_true : (L : ℕ) (s t : Bool) (a b c p n p' n' : ℕ) → 0 < L → Rel L s a c p n → Rel L t b c p' n'
    → below s a t b ≡ true → p + n' < p' + n
below_true L s t a b c p n p' n' l e d z = lt_of_mul-lt-mul_right c (go s t e d z)
  where
    go : (s t : Bool) → Rel L s a c p n → Rel L t b c p' n' → below s a t b ≡ true → (p + n') * c < (p' + n) * c
    go false false e d z = omega (arith, mul-lt-mul_of_pos_right (ltb-true a b z) l)
    go false true e d z = absurd (false≢true z)
    go true false e d z = omega (arith, mul-lt-mul_of_pos_right (ltb-true 0 (a + b) z) l)
    go true true e d z = omega (arith, mul-lt-mul_of_pos_right (ltb-true b a z) l)

below_false : (L : ℕ) (s t : Bool) (a b c p n p' n' : ℕ) → 0 < c → Rel L s a c p n → Rel L t b c p' n'
    → below s a t b ≡ false → p' + n ≤ p + n'
below_false L s t a b c p n p' n' C e d z = le_of_mul-le-mul_right (go s t e d z) C
  where
    go : (s t : Bool) → Rel L s a c p n → Rel L t b c p' n' → below s a t b ≡ false → (p' + n) * c ≤ (p + n') * c
    go false false e d z = omega (arith, mul-le-mul_right L (ltb-false a b z))
    go false true e d z = omega arith
    go true false e d z = omega (arith, mul-le-mul_right L (ltb-false 0 (a + b) z))
    go true true e d z = omega (arith, mul-le-mul_right L (ltb-false b a z))

module _ (f : Format) where
  pub lt_true : (x y : Float) (p n p' n' : ℕ) → Is f x p n → Is f y p' n' → lt x y ≡ true → p + n' < p' + n
  unfolding lt
  lt_true nan y p n p' n' a b z = elim a [ ]
  lt_true (inf _) y p n p' n' a b z = elim a [ ]
  lt_true (fin s m e) nan p n p' n' a b z = elim b [ ]
  lt_true (fin s m e) (inf _) p n p' n' a b z = elim b [ ]
  lt_true (fin s m e) (fin t l d) p n p' n' a b z =
      below_true (2 ^ low f) s t _ _ _ p n p' n' (pow_pos (low f))
      (first f s t m l e d p n p' n' a b) (second f s t m l e d p n p' n' a b) z

  pub lt_false : (x y : Float) (p n p' n' : ℕ) → Is f x p n → Is f y p' n' → lt x y ≡ false → p' + n ≤ p + n'
  unfolding lt
  lt_false nan y p n p' n' a b z = elim a [ ]
  lt_false (inf _) y p n p' n' a b z = elim a [ ]
  lt_false (fin s m e) nan p n p' n' a b z = elim b [ ]
  lt_false (fin s m e) (inf _) p n p' n' a b z = elim b [ ]
  lt_false (fin s m e) (fin t l d) p n p' n' a b z =
      below_false (2 ^ low f) s t _ _ _ p n p' n' (downs_pos e d)
      (first f s t m l e d p n p' n' a b) (second f s t m l e d p n p' n' a b) z
