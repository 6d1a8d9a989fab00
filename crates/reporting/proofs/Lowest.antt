-- `gcd` divides both numbers and is divided by every common divisor, so `fraction` is exact and in lowest terms. Assumes nothing.
use mathlib.Core.Path.{◌≡◌, refl}
use mathlib.Core.Bool.{Bool, true, false, cond}
use Prim.Native.Nat.{ℕ, zero, suc, ◌*◌, ◌/◌, ◌%◌, ◌<◌, ◌∣◌}
use native.Mathlib.Nat.{mod-lt, one-mul, div-mul_cancel, mul-dvd-mul_right, dvd_of_mul-dvd-mul_right}
use native.Mathlib.Nat.{dvd_refl, dvd-zero, dvd-mod_iff, eq-one_of_dvd-one, pos_of_dvd_of_pos}
use mathlib.Core.List.{[], ◌∷◌}
use native.Mathlib.Omega.{arith}
use lib.Dec.{eqb}
use borrow.Author.Tests.{eqb-true, eqb-false, eq-eqb, ne_eqb}
use Rattle.reporting.specs.Fraction.{gcd_by, gcd, fraction, LowestTerms, FractionIsLowest}

rest_below : (a b k : ℕ) → (b ≡ 0 → ⊥) → b < suc k → a % b < k
rest_below a b k n h = let z : 0 < b = omega (arith, n) in omega (arith, mod-lt a {m = b} z)

-- any sufficient number of divisions gives the same
gcd_enough : (j k a b : ℕ) → b < j → b < k → gcd_by j a b ≡ gcd_by k a b
unfolding gcd_by
gcd_enough zero k a b h l = absurd (omega arith)
gcd_enough (suc j) zero a b h l = absurd (omega arith)
gcd_enough (suc j) (suc k) a b h l =
    let deeper : a % b < j → a % b < k → gcd_by j b (a % b) ≡ gcd_by k b (a % b) = gcd_enough j k b (a % b) in
    let go : (t : Bool) → eqb b 0 ≡ t → cond t a (gcd_by j b (a % b)) ≡ cond t a (gcd_by k b (a % b)) =
    elim [ true ↦ λ e. refl | false ↦ λ e. deeper (rest_below a b j (eqb-false b 0 e) h) (rest_below a b k (eqb-false b 0 e) l) ] in
    go (eqb b 0) refl

-- one turn of the loop, and its end
pub gcd_next : (a b : ℕ) → (b ≡ 0 → ⊥) → gcd a b ≡ gcd b (a % b)
unfolding gcd_by
gcd_next a b n =
    let z : 0 < b = omega (arith, n) in
    rw (ne_eqb b 0 n) (gcd_enough b (suc (a % b)) b (a % b) (mod-lt a {m = b} z) (omega arith))

pub gcd_end : (a b : ℕ) → b ≡ 0 → gcd a b ≡ a
unfolding gcd_by
gcd_end a b e = rw (eq-eqb b 0 e) refl

-- it divides both
gcd_divides : (k a b : ℕ) → b < k → (gcd_by k a b ∣ a) × (gcd_by k a b ∣ b)
unfolding gcd_by
gcd_divides zero a b h = absurd (omega arith)
gcd_divides (suc k) a b h =
    let g = gcd_by k b (a % b) in
    let deeper : a % b < k → (g ∣ b) × (g ∣ a % b) = gcd_divides k b (a % b) in
    let go : (t : Bool) → eqb b 0 ≡ t → (cond t a g ∣ a) × (cond t a g ∣ b) =
    elim [
      | true ↦ λ e. (dvd_refl a, rw (eqb-true b 0 e) (dvd-zero a))
      | false ↦ λ e. let d = deeper (rest_below a b k (eqb-false b 0 e) h) in ((dvd-mod_iff g {m = a} {n = b} d.0).0 d.1, d.0)
    ] in
    go (eqb b 0) refl

-- and every common divisor divides it
gcd_greatest : (k a b d : ℕ) → b < k → d ∣ a → d ∣ b → d ∣ gcd_by k a b
unfolding gcd_by
gcd_greatest zero a b d h p q = absurd (omega arith)
gcd_greatest (suc k) a b d h p q =
    let deeper : a % b < k → d ∣ b → d ∣ a % b → d ∣ gcd_by k b (a % b) = gcd_greatest k b (a % b) d in
    let go : (t : Bool) → eqb b 0 ≡ t → d ∣ cond t a (gcd_by k b (a % b)) =
    elim [
      | true ↦ λ e. p
      | false ↦ λ e. deeper (rest_below a b k (eqb-false b 0 e) h) q ((dvd-mod_iff d {m = a} {n = b} q).1 p)
    ] in
    go (eqb b 0) refl

crossed : (a b x y g : ℕ) → x * g ≡ a → y * g ≡ b → x * b ≡ a * y
crossed a b x y g p q = rw (← p, ← q) (omega arith)

module _ (a b : ℕ) (some : 0 < b) where
  abbrev g : ℕ
  g = gcd a b

  both : (g ∣ a) × (g ∣ b)
  both = gcd_divides (suc b) a b (omega arith)

  pub gcd_pos : 0 < g
  gcd_pos = pos_of_dvd_of_pos both.1 some

  pub fraction_is : fraction a b ≡ a / g ∷ b / g ∷ []
  unfolding fraction
  fraction_is = rw (ne_eqb b 0 (λ e. omega arith)) refl

  lowest_by : LowestTerms a b (fraction a b)
  lowest_by =
      let p : a / g * g ≡ a = div-mul_cancel g both.0 in
      let q : b / g * g ≡ b = div-mul_cancel g both.1 in
      record {
        numerator = a / g;
        denominator = b / g;
        shown = fraction_is;
        exact = crossed a b (a / g) (b / g) g p q;
        lowest =
            λ d m n.
            let one : d * g ∣ g =
            gcd_greatest (suc b) a b (d * g) (omega arith) (rw p at (mul-dvd-mul_right d m g)) (rw q at (mul-dvd-mul_right d n g)) in
            eq-one_of_dvd-one (dvd_of_mul-dvd-mul_right {k = g} d {n = 1} gcd_pos (rw one-mul one));
      }

pub lowest_terms : FractionIsLowest
lowest_terms a b some = lowest_by a b some
