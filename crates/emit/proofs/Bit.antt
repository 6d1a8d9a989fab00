-- A test as a number. Assumes nothing.
use mir.Val.{bool_byte}
use Rattle.std.proofs.Common.{ℕ, Bool, true, false, ◌≡◌, ◌<◌, refl, arith}
use Rattle.lists.specs.Counted.{bit}

pub byte_bit : (t : Bool) → bool_byte t ≡ bit t
byte_bit true = refl
byte_bit false = refl

pub bit_low : (t : Bool) (v : ℕ) → v ≡ bool_byte t → v < 2
bit_low true v e = omega arith
bit_low false v e = omega arith
