-- The sign of a float, and bounds by whole numbers.
use Rattle.std.specs.Prelude.{◌≡◌, false, ◌⊎◌, ℕ, ◌*◌, ◌≤◌, Float}
use Rattle.std.specs.Float.{nan, inf, fin}
use Rattle.std.specs.Float.Ieee.{up, down}

-- x is not below zero: its sign is plus or it is 0, so -0 is in; and so is nan
abbrev pub NotNeg : Float → Type 0
NotNeg nan = Unit {0}
NotNeg (inf s) = s ≡ false
NotNeg (fin s m e) = (s ≡ false) ⊎ (m ≡ 0)

-- x is finite, and at most A in size, whatever its sign
abbrev pub Under : Float → ℕ → Type 0
Under nan A = ⊥
Under (inf s) A = ⊥
Under (fin s m e) A = m * up e ≤ A * down e

-- x is finite, not below zero, and at most A
abbrev pub Within : Float → ℕ → Type 0
Within x A = Under x A × NotNeg x
