-- Document 02, L1: a fraction in lowest terms.
use Rattle.std.specs.Prelude.{ℕ, zero, suc, ◌*◌, ◌/◌, ◌%◌, ◌<◌, ◌≡◌, cond, List, [], ◌∷◌, eqb}
use Rattle.std.specs.Int.{◌∣◌}

-- Euclid's divisions, at most k of them
unfoldable pub gcd_by : ℕ → ℕ → ℕ → ℕ
gcd_by zero a b = a
gcd_by (suc k) a b = cond (eqb b 0) a (gcd_by k b (a % b))

-- a remainder is below its divisor, so b + 1 are enough
abbrev pub gcd : ℕ → ℕ → ℕ
gcd a b = gcd_by (suc b) a b

-- numerator and denominator of a / b; 0 and 1 where b is 0
unfoldable pub fraction : ℕ → ℕ → List ℕ
fraction a b = cond (eqb b 0) (0 ∷ 1 ∷ []) (a / gcd a b ∷ b / gcd a b ∷ [])

-- the two numbers of l are numerator and denominator of a / b, and no number but 1 divides both
pub record LowestTerms (a b : ℕ) (l : List ℕ) : Type 0 where
  pub numerator : ℕ
  pub denominator : ℕ
  pub shown : l ≡ numerator ∷ denominator ∷ []
  pub exact : numerator * b ≡ a * denominator
  pub lowest : (d : ℕ) → d ∣ numerator → d ∣ denominator → d ≡ 1

-- Proved in proofs/Lowest.antt.
abbrev pub FractionIsLowest : Type 0
FractionIsLowest = (a b : ℕ) → 0 < b → LowestTerms a b (fraction a b)
