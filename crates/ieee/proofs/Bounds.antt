-- Bounds by whole numbers: a sum, a difference or a product of values under A and B is under A + B or A * B, where the
-- format holds that number, since rounding keeps the order. Such values are never infinite and never nan.
use mathlib.Core.Path.{◌≡◌, refl}
use mathlib.Core.Bool.{Bool, true, false, ◌&&◌, beq, cond}
use Prim.Native.Nat.{ℕ, suc, ◌+◌, ◌-◌, ◌*◌, ◌^◌, ◌≤◌, ◌<◌}
use native.Mathlib.Nat.{zero-lt-suc, le_trans, le_of_eq, mul-le-mul_right, mul-le-mul}
use native.Mathlib.Omega.{arith}
use lib.Dec.{T, ltb}
use lib.IntN.{pos}
use lib.Pow.{pow-add}
use lib.Ieee.{Float, inf, fin, Format, prec, emax, low, up, down, round, sum, add, sub, neg, mul, lt, eq, le, nan}
use lib.Ieee.{unlike, of_bits}
use lib.Ieee.Fits.{down_pos}
use lib.Ieee.Exact.{HasValue, round_exact}
use Rattle.ieee.specs.Bounds.{Under, Within}
use Rattle.ieee.specs.Numbers.{nat}
use Rattle.ieee.proofs.Fractions.{downs_pos, le_whole}
use Rattle.ieee.proofs.Signs.{add_not_neg, square_not_neg, value_not_neg, not_neg_of_test}
use Rattle.ieee.proofs.Signs.{zero_bits}
use Rattle.ieee.proofs.Numbers.{nat_val}
use Rattle.ieee.proofs.Grows.{Grows, round_grows, grows_of_le}

-- the format holds the number A
abbrev pub Rep : Format → ℕ → Type 0
Rep f A = HasValue (round f false A 1) false A 1

-- ---- where a bound comes from
pub value_under : (x : Float) (s : Bool) (a c A : ℕ) → 0 < c → HasValue x s a c → a ≤ A * c → Under x A
value_under nan s a c A C v h = elim v [ ]
value_under (inf _) s a c A C v h = elim v [ ]
value_under (fin t m e) s a c A C v h = le_whole (m * up e) (down e) a c A C (le_of_eq v.1) h

pub value_within : (x : Float) (a c A : ℕ) → 0 < c → HasValue x false a c → a ≤ A * c → Within x A
value_within x a c A C v h = (value_under x false a c A C v h, value_not_neg x a c v)

grows_under : (y x : Float) (A : ℕ) → Grows x y → HasValue y false A 1 → Under x A
grows_under nan _ A g v = elim v [ ]
grows_under (inf _) _ A g v = elim v [ ]
grows_under (fin t n d) nan A g v = elim g [ ]
grows_under (fin t n d) (inf _) A g v = elim g [ ]
grows_under (fin t n d) (fin s m e) A g v =
    le_whole (m * up e) (down e) (n * up d) (down d) A (down_pos d) g (omega (arith, v.1))

-- from the tests 0 ≤ x ≤ y, where y is the number A
pub within_of_tests : (x y : Float) (A : ℕ) → T (le (fin false 0 (pos 0)) x) → T (le x y) → HasValue y false A 1
    → Within x A
within_of_tests x y A p q v =
    (grows_under y x A (grows_of_le x y (not_neg_of_test x p) (value_not_neg y A 1 v) q) v, not_neg_of_test x p)

-- the same, from the tests as branches have them
pub within_if : (f : Format) (x y : Float) (A : ℕ) → le (of_bits f 0) x ≡ true → le x y ≡ true → HasValue y false A 1
    → Within x A
within_if f x y A p q v = within_of_tests x y A (rw (← zero_bits f, p) tt) (rw q tt) v

-- a larger bound
pub under_mono : (x : Float) (A B : ℕ) → A ≤ B → Under x A → Under x B
under_mono nan A B h u = elim u [ ]
under_mono (inf _) A B h u = elim u [ ]
under_mono (fin s m e) A B h u = le_trans u (mul-le-mul_right (down e) h)

pub within_mono : (x : Float) (A B : ℕ) → A ≤ B → Within x A → Within x B
within_mono x A B h w = (under_mono x A B h w.0, w.1)

-- a whole number as a float
pub nat_within : (f : Format) (n A : ℕ) → n ≤ A → A ≤ 2 ^ prec f → Within (nat f n) A
nat_within f n A l g = value_within (nat f n) n 1 A (zero-lt-suc 0) (nat_val f n (le_trans l g)) (omega arith)

-- the format holds q * 2 ^ j, for q of no more digits than it keeps
pub rep_scaled : (f : Format) (q j : ℕ) → q < 2 ^ prec f → q * 2 ^ (j + low f) < 2 ^ (low f + suc (emax f))
    → Rep f (q * 2 ^ j)
rep_scaled f q j h k =
    round_exact f false (q * 2 ^ j) 1 q (j + low f) (zero-lt-suc 0) h k (rw (pow-add 2 j (low f)) (omega arith))

-- ---- bounds through the operations
-- a / c at most A rounds to a value under A
pub round_le : (f : Format) (s : Bool) (a c A : ℕ) → 0 < c → a ≤ A * c → Rep f A → Under (round f s a c) A
round_le f s a c A C h r =
    grows_under (round f false A 1) (round f s a c) A (round_grows f s false a c A 1 C (zero-lt-suc 0) (omega arith)) r

cond_under : (b : Bool) (x y : Float) (A : ℕ) → Under x A → Under y A → Under (cond b x y) A
cond_under true x y A u v = u
cond_under false x y A u v = v

sum_le : (f : Format) (s t : Bool) (a b c A : ℕ) → 0 < c → a + b ≤ A * c → Rep f A → Under (sum f s a t b c) A
unfolding sum
sum_le f s t a b c A C h r =
    cond_under (beq s t) _ _ A (round_le f s (a + b) c A C h r)
    (cond_under (ltb a b) _ _ A (round_le f t (b - a) c A C (omega arith) r)
    (round_le f (s && ltb b a) (a - b) c A C (omega arith) r))

sum_fits : (M x N y A B : ℕ) → M ≤ A * x → N ≤ B * y → M * y + N * x ≤ (A + B) * (x * y)
sum_fits M x N y A B h k = omega (arith, mul-le-mul_right y h, mul-le-mul_right x k)

pub add_under : (f : Format) (x y : Float) (A B : ℕ) → Under x A → Under y B → Rep f (A + B) → Under (add f x y) (A + B)
unfolding add
add_under f nan y A B h k r = elim h [ ]
add_under f (inf _) y A B h k r = elim h [ ]
add_under f (fin s m e) nan A B h k r = elim k [ ]
add_under f (fin s m e) (inf _) A B h k r = elim k [ ]
add_under f (fin s m e) (fin t n d) A B h k r =
    sum_le f s t _ _ _ (A + B) (downs_pos e d) (sum_fits (m * up e) (down e) (n * up d) (down d) A B h k) r

pub neg_under : (x : Float) (A : ℕ) → Under x A → Under (neg x) A
unfolding neg
neg_under nan A h = elim h [ ]
neg_under (inf _) A h = elim h [ ]
neg_under (fin s m e) A h = h

pub sub_under : (f : Format) (x y : Float) (A B : ℕ) → Under x A → Under y B → Rep f (A + B) → Under (sub f x y) (A + B)
unfolding sub
sub_under f x y A B h k r = add_under f x (neg y) A B h (neg_under y B k) r

pub mul_under : (f : Format) (x y : Float) (A B : ℕ) → Under x A → Under y B → Rep f (A * B) → Under (mul f x y) (A * B)
unfolding mul
mul_under f nan y A B h k r = elim h [ ]
mul_under f (inf _) y A B h k r = elim h [ ]
mul_under f (fin s m e) nan A B h k r = elim k [ ]
mul_under f (fin s m e) (inf _) A B h k r = elim k [ ]
mul_under f (fin s m e) (fin t n d) A B h k r =
    round_le f (unlike s t) _ _ (A * B) (downs_pos e d) (omega (arith, mul-le-mul h k)) r

pub add_within : (f : Format) (x y : Float) (A B : ℕ) → Within x A → Within y B → Rep f (A + B)
    → Within (add f x y) (A + B)
add_within f x y A B h k r = (add_under f x y A B h.0 k.0 r, add_not_neg f x y h.1 k.1)

pub square_within : (f : Format) (x : Float) (A : ℕ) → Under x A → Rep f (A * A) → Within (mul f x x) (A * A)
square_within f x A h r = (mul_under f x x A A h h r, square_not_neg f x)

-- ---- never nan, never infinite
-- an infinite limit is never reached
pub under_bound : (x : Float) (A : ℕ) → Under x A → le (inf false) x ≡ false
unfolding le lt eq
under_bound nan A h = elim h [ ]
under_bound (inf _) A h = elim h [ ]
under_bound (fin s m e) A h = refl

-- every such value is below infinity
pub under_lt : (x : Float) (A : ℕ) → Under x A → lt x (inf false) ≡ true
unfolding lt
under_lt nan A h = elim h [ ]
under_lt (inf _) A h = elim h [ ]
under_lt (fin s m e) A h = refl
