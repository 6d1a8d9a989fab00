-- Signs through rounding, sums and products: what is not negative stays so.
use mathlib.Core.Path.{◌≡◌, refl, sym}
use mathlib.Core.Bool.{Bool, true, false, ◌&&◌, ◌||◌, cond, true≢false}
use mathlib.Core.Logic.{◌⊎◌, inl, inr}
use Prim.Native.Nat.{ℕ, zero, suc, ◌+◌, ◌-◌, ◌*◌, ◌^◌, ◌≤◌, ◌<◌}
use native.Mathlib.Nat.{zero-mul, mul-zero, zero-lt-suc, eq_of_mul-eq-mul_right}
use native.Mathlib.Omega.{arith}
use lib.Dec.{T, ltb, eqb, eqb→eq}
use lib.IntN.{ℤ, pos}
use lib.Ieee.{Float, nan, inf, fin, Format, binary32, binary64, prec, emax, low, up, down, odd, units, round, sum, add}
use lib.Ieee.{mul, lt, eq, le, unlike, of_bits}
use lib.Ieee.Fits.{up_pos, and_l}
use lib.Ieee.Exact.{HasValue}
use lib.Ieee.Scale.{round_same}
use borrow.Author.Tests.{ltb-false, le-ltb}
use Rattle.ieee.specs.Bounds.{NotNeg}
use Rattle.ieee.proofs.Fractions.{downs_pos}

-- the sign is plus, or the number is 0
abbrev pub Plus : Bool → ℕ → Type 0
Plus s m = (s ≡ false) ⊎ (m ≡ 0)

-- x with the sign s
abbrev pub resign : Bool → Float → Float
resign s nan = nan
resign s (inf t) = inf s
resign s (fin t m e) = fin s m e

units_cases : (f : Format) (s t : Bool) (q k : ℕ) (P : Float → Float → Type 0) → P (inf s) (inf t)
    → ((m : ℕ) (e : ℤ) → P (fin s m e) (fin t m e)) → P (units f s q k) (units f t q k)
unfolding units odd
units_cases f s t q k P i n = go (ltb (q * 2 ^ k) (2 ^ (low f + suc (emax f)))) q
  where
    go : (b : Bool) (q : ℕ)
        → P (cond b (odd (suc (prec f)) s q k (low f)) (inf s)) (cond b (odd (suc (prec f)) t q k (low f)) (inf t))
    go true zero = n 0 (pos 0)
    go true (suc q) = n _ _
    go false q = i

-- a fraction rounds to an infinity or to a finite value, which has the sign that is handed to `round`; the size does not
-- depend on that sign
pub round_cases : (f : Format) (s t : Bool) (a c : ℕ) (P : Float → Float → Type 0) → P (inf s) (inf t)
    → ((m : ℕ) (e : ℤ) → P (fin s m e) (fin t m e)) → P (round f s a c) (round f t a c)
unfolding round
round_cases f s t a c P i n = units_cases f s t _ _ P i n

-- so the sign goes through
pub round_resign : (f : Format) (s t : Bool) (a c : ℕ) → resign s (round f t a c) ≡ round f s a c
round_resign f s t a c = round_cases f t s a c (λ x y. resign s x ≡ y) refl (λ m e. refl)

zero_round : (f : Format) (s : Bool) → round f s 0 1 ≡ fin s 0 (pos 0)
unfolding round
zero_round binary32 s = refl
zero_round binary64 s = refl

pub round_not_neg : (f : Format) (s : Bool) (a c : ℕ) → 0 < c → Plus s a → NotNeg (round f s a c)
round_not_neg f s a c C (inl p) = rw p (round_cases f false false a c (λ x y. NotNeg x) refl (λ m e. inl refl))
round_not_neg f s a c C (inr p) =
    rw (p, round_same f s 0 c 0 1 C (zero-lt-suc 0) (sym (zero-mul c)), zero_round f s) (inr refl)

pub value_not_neg : (x : Float) (a c : ℕ) → HasValue x false a c → NotNeg x
value_not_neg nan a c v = elim v [ ]
value_not_neg (inf _) a c v = elim v [ ]
value_not_neg (fin s m e) a c v = inl v.0

-- ---- sums
sum_is : (f : Format) (s t : Bool) (a b c : ℕ) → Plus s a → Plus t b
    → (sum f s a t b c ≡ round f (s && t) (a + b) c) × Plus (s && t) (a + b)
unfolding sum
sum_is f false false a b c p q = (refl, inl refl)
sum_is f true true a b c (inl p) q = absurd (true≢false p)
sum_is f true true a b c (inr p) (inl q) = absurd (true≢false q)
sum_is f true true a b c (inr p) (inr q) = (refl, inr (omega arith))
sum_is f false true a b c p (inl q) = absurd (true≢false q)
sum_is f false true a b c p (inr q) =
    let k : a - b ≡ a + b = omega arith in (rw (le-ltb a b (omega arith), k) refl, inl refl)
sum_is f true false a b c (inl p) q = absurd (true≢false p)
sum_is f true false a b c (inr p) q = (rw (le-ltb b a (omega arith)) (go (ltb a b) (ltb-false a b)), inl refl)
  where
    go : (x : Bool) → (x ≡ false → b ≤ a)
        → cond x (round f false (b - a) c) (round f false (a - b) c) ≡ round f false (a + b) c
    go true h = let k : b - a ≡ a + b = omega arith in rw k refl
    go false h = let k : a - b ≡ a + b = omega (arith, h refl) in rw k refl

scaled : {s : Bool} {m : ℕ} (k : ℕ) → Plus s m → Plus s (m * k)
scaled k (inl p) = inl p
scaled k (inr p) = inr (rw p (zero-mul k))

-- the sum of two finite values that are not negative is one rounding of the exact sum
pub add_is : (f : Format) (s t : Bool) (m n : ℕ) (e d : ℤ) → Plus s m → Plus t n
    → (add f (fin s m e) (fin t n d) ≡ round f (s && t) (m * up e * down d + n * up d * down e) (down e * down d))
    × Plus (s && t) (m * up e * down d + n * up d * down e)
unfolding add
add_is f s t m n e d p q = sum_is f s t _ _ _ (scaled (down d) (scaled (up e) p)) (scaled (down e) (scaled (up d) q))

pub add_not_neg : (f : Format) (x y : Float) → NotNeg x → NotNeg y → NotNeg (add f x y)
add_not_neg f nan y p q = unfold add in tt
add_not_neg f (inf s) nan p q = unfold add in tt
add_not_neg f (inf s) (inf t) p q = unfold add in (rw (p, q) refl)
add_not_neg f (inf s) (fin t n d) p q = unfold add in p
add_not_neg f (fin s m e) nan p q = unfold add in tt
add_not_neg f (fin s m e) (inf t) p q = unfold add in q
add_not_neg f (fin s m e) (fin t n d) p q =
    let i = add_is f s t m n e d p q in rw i.0 (round_not_neg f (s && t) _ _ (downs_pos e d) i.1)

-- ---- products
product : (s t : Bool) (m n k : ℕ) → Plus s m → Plus t n → (m ≡ 0 → k ≡ 0) → (n ≡ 0 → k ≡ 0) → Plus (unlike s t) k
product s t m n k (inl p) (inl q) h g = inl (rw (p, q) refl)
product s t m n k (inl p) (inr q) h g = inr (g q)
product s t m n k (inr p) q h g = inr (h p)

zero_or_inf : (s : Bool) (m : ℕ) → Plus s m → NotNeg (cond (eqb m 0) nan (inf s))
zero_or_inf s m (inr p) = rw p tt
zero_or_inf s m (inl p) = go (eqb m 0)
  where
    go : (b : Bool) → NotNeg (cond b nan (inf s))
    go true = tt
    go false = p

pub mul_not_neg : (f : Format) (x y : Float) → NotNeg x → NotNeg y → NotNeg (mul f x y)
mul_not_neg f nan y p q = unfold mul in tt
mul_not_neg f (inf s) nan p q = unfold mul in tt
mul_not_neg f (inf s) (inf t) p q = unfold mul in (rw (p, q) refl)
mul_not_neg f (inf s) (fin t n d) p q =
    unfold mul in (zero_or_inf (unlike s t) n (product s t n n n (inl p) q (λ z. z) (λ z. z)))
mul_not_neg f (fin s m e) nan p q = unfold mul in tt
mul_not_neg f (fin s m e) (inf t) p q =
    unfold mul in (zero_or_inf (unlike s t) m (product s t m m m p (inl q) (λ z. z) (λ z. z)))
mul_not_neg f (fin s m e) (fin t n d) p q =
    unfold mul in (round_not_neg f (unlike s t) _ _ (downs_pos e d)
    (product s t m n (m * up e * (n * up d)) p q (λ z. simp (z, zero-mul)) (λ z. simp (z, zero-mul, mul-zero))))

pub square_not_neg : (f : Format) (x : Float) → NotNeg (mul f x x)
square_not_neg f nan = unfold mul in tt
square_not_neg f (inf true) = unfold mul in refl
square_not_neg f (inf false) = unfold mul in refl
square_not_neg f (fin true m e) = unfold mul in (round_not_neg f false _ _ (downs_pos e e) (inl refl))
square_not_neg f (fin false m e) = unfold mul in (round_not_neg f false _ _ (downs_pos e e) (inl refl))

-- ---- the test 0 ≤ x
pub not_neg_of_test : (x : Float) → T (le (fin false 0 (pos 0)) x) → NotNeg x
unfolding le lt eq
not_neg_of_test nan h = tt
not_neg_of_test (inf true) h = absurd h
not_neg_of_test (inf false) h = refl
not_neg_of_test (fin false m e) h = inl refl
not_neg_of_test (fin true m e) h =
    let k : 0 * down e ≡ m * up e * 1 =
    eqb→eq _ _ (and_l (eqb (0 * down e) (m * up e * 1)) (false || eqb (0 * down e) 0) h) in
    inr (eq_of_mul-eq-mul_right (up e) (up_pos e) m 0 (omega arith))

-- 0.0, as a literal has it
pub zero_bits : (f : Format) → of_bits f 0 ≡ fin false 0 (pos 0)
unfolding of_bits
zero_bits binary32 = refl
zero_bits binary64 = refl
