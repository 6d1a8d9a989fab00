use mathlib.Core.Path.{◌≡◌}
use Prim.Native.Nat.{◌+◌, ◌-◌, ◌*◌, ◌/◌, ◌^◌, ◌≤◌, zero-le}
use native.Mathlib.Nat.{le_refl}
use native.Mathlib.Omega.{arith}
use lib.Ieee.{binary32, binary64, of_bits}
use Rattle.samples.specs.Narrow.{narrow_of}
use Rattle.samples.proofs.Narrowing.{nothing, few, most, above}
use Rattle.samples.proofs.narrow_bits.Goals as goal

pub returns-then-e-lt873 : goal.returns-then-e-lt873
returns-then-e-lt873 c = (zero-le, nothing c.args.b c.requires c.if-e-lt873.true)

pub returns-then-e-lt897 : goal.returns-then-e-lt897
returns-then-e-lt897 c =
    let r = few c.args.b c.requires (omega (arith, c.if-e-lt873.false)) c.if-e-lt897.true in
    rw c.half_even.ensures (omega (arith, r.0), r.1)

pub returns-then-e-gt1150 : goal.returns-then-e-gt1150
returns-then-e-gt1150 c = (le_refl 2139095040, above c.args.b c.requires c.if-e-gt1150.true)

-- what is kept is small, and the answer's bits
kept : (c : goal.After-half_even-2)
    → let b = c.args.b in
    let k = b / 4503599627370496 - 897 in
    (k ≤ 253) × (c.half_even-2.result ≤ 2 ^ 24)
    × (of_bits binary32 (k * 8388608 + c.half_even-2.result) ≡ narrow_of (of_bits binary64 b))
kept c =
    let r = most c.args.b c.requires (omega (arith, c.if-e-lt897.false)) (omega (arith, c.if-e-gt1150.false)) in
    rw c.half_even-2.ensures (omega (arith, c.if-e-gt1150.false), r.0, r.1)

pub overflow_add-result : goal.overflow_add-result
overflow_add-result c = omega (arith, (kept c).0, (kept c).1)

pub returns : goal.returns
returns c = (omega (arith, (kept c).0, (kept c).1), (kept c).2)
