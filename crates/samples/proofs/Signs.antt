-- The sign of an f64 and of the f32 nearest to it.
use mathlib.Core.Path.{◌≡◌, refl, sym, ◌∙◌}
use mathlib.Core.Bool.{Bool, true, false}
use Prim.Native.Nat.{ℕ, ◌+◌, ◌*◌, ◌/◌, ◌%◌, ◌^◌, ◌≤◌, ◌<◌}
use native.Mathlib.Omega.{arith}
use lib.Dec.{leb}
use lib.Ieee.{Float, nan, inf, fin, binary32, up, down, of_bits}
use borrow.Author.Tests.{leb-true, leb-false, le-leb, lt-leb}
use Rattle.ieee.proofs.Signs.{resign, round_resign}
use Rattle.samples.specs.Narrow.{narrow_of}
use Rattle.samples.proofs.Fields.{sign_of}

pub narrow_sign : (s : Bool) (x : Float) → narrow_of (resign s x) ≡ resign s (narrow_of x)
narrow_sign s nan = refl
narrow_sign s (inf t) = refl
narrow_sign s (fin t m e) = sym (round_resign binary32 s t (m * up e) (down e))

-- an f32 by its bits and the sign of an f64
pub sign_32 : (b r : ℕ) → b < 2 ^ 64 → r ≤ 0x7f80_0000
    → of_bits binary32 (b / 9223372036854775808 * 2147483648 + r) ≡ resign (leb 9223372036854775808 b) (of_bits binary32 r)
sign_32 b r h k =
    let rest : c % 2147483648 ≡ r = omega arith in
    sign_of binary32 c ∙ rw (same (leb 9223372036854775808 b) refl, rest) refl
  where
    c : ℕ
    c = b / 9223372036854775808 * 2147483648 + r

    same : (s : Bool) → leb 9223372036854775808 b ≡ s → leb 2147483648 c ≡ s
    same true e = le-leb 2147483648 c (omega (arith, leb-true 9223372036854775808 b e))
    same false e = lt-leb 2147483648 c (omega (arith, leb-false 9223372036854775808 b e))
