-- Whole numbers as floats.
use Rattle.std.specs.Prelude.{ℕ, pos, Float}
use Rattle.std.specs.Float.{Format}
use Rattle.std.specs.Float.Ieee.{of_int}

-- the float of n: the nearest one, where the format does not hold n
abbrev pub nat : Format → ℕ → Float
nat f n = of_int f (pos n)
