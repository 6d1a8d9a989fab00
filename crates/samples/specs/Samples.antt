-- Which lambdas, costs and samples are within their ranges, and the level of a sample.
use Rattle.std.specs.Prelude.{Bool, true, ◌&&◌, List, [], ◌∷◌, ℕ, ◌+◌, ◌-◌, ◌*◌, ◌/◌, ◌^◌, eqb, length, Float}
use Rattle.std.specs.Float.{binary32}
use Rattle.std.specs.Float.Ieee.{le, of_bits}
use Rattle.std.specs.Float.Ieee.Positive.{num, den}
use Rattle.ieee.specs.Numbers.{nat}

-- 0 ≤ x ≤ top: -0.0 is, NaN is not
abbrev pub in_range : ℕ → Float → Bool
in_range top x = le (of_bits binary32 0) x && le x (nat binary32 top)

-- each of the floats is
unfoldable pub all_in_range : ℕ → List Float → Bool
all_in_range top [] = true
all_in_range top (x ∷ xs) = in_range top x && all_in_range top xs

-- number 4 where this is false
abbrev pub lambda_ok : Float → Bool
lambda_ok lambda = in_range (2 ^ 20) lambda

-- number 5
abbrev pub costs_ok : List Float → Bool
costs_ok costs = eqb (length costs) 301 && all_in_range 32 costs

-- number 6
abbrev pub samples_ok : ℕ → List Float → Bool
samples_ok bd samples = all_in_range (2 ^ bd - 1) samples

-- x is num / den in size: rounded half away from zero, in whole numbers
abbrev pub level_of : Float → ℕ
level_of x = (2 * num x + den x) / (2 * den x)
