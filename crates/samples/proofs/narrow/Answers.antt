use mathlib.Core.Path.{◌≡◌, refl, sym, ap, ◌∙◌, subst}
use mathlib.Core.Bool.{false, not}
use Prim.Native.Nat.{ℕ, ◌+◌, ◌*◌, ◌/◌, ◌%◌, ◌^◌, ◌≤◌, ◌<◌}
use native.Mathlib.Omega.{arith}
use lib.Dec.{T, ltb, leb}
use lib.Ieee.{Float, binary32, binary64, div, fits, is_nan, nan_bits, of_bits, to_bits}
use lib.Ieee.Bits.{of_bits-to_bits, to_bits-lt, nan_bits_is, nan_bits_above}
use borrow.Author.Tests.{ltb-false, le-ltb}
use Rattle.ieee.proofs.Signs.{resign}
use Rattle.samples.specs.Narrow.{narrow_of}
use Rattle.samples.proofs.Fields.{sign_of}
use Rattle.samples.proofs.Values.{number, none}
use Rattle.samples.proofs.Signs.{narrow_sign, sign_32}
use Rattle.samples.proofs.narrow.Goals as goal
use Rattle.samples.proofs.narrow.Goals.{Start, After-narrow_bits-r}

module _ (x : Float) (f : T (fits binary64 x)) (z : is_nan x ≡ false) where
  top : to_bits binary64 x % 9223372036854775808 ≤ 0x7ff0_0000_0000_0000
  top =
      ltb-false 0x7ff0_0000_0000_0000 (to_bits binary64 x % 9223372036854775808)
      (sym (nan_bits_above binary64 (to_bits binary64 x)) ∙ nan_bits_is binary64 (to_bits binary64 x)
      ∙ ap is_nan (of_bits-to_bits binary64 x f) ∙ z)

  wide : to_bits binary64 x < 2 ^ 64
  wide = to_bits-lt binary64 x f

  signed : (r : ℕ) → r ≤ 0x7f80_0000 → of_bits binary32 r ≡ narrow_of (of_bits binary64 (to_bits binary64 x % 9223372036854775808))
      → of_bits binary32 (to_bits binary64 x / 9223372036854775808 * 2147483648 + r) ≡ narrow_of x
  signed r h e =
      let b = to_bits binary64 x in
      let s = leb 9223372036854775808 b in
      sign_32 b r wide h ∙ ap (λ y. resign s y) e ∙ sym (narrow_sign s (of_bits binary64 (b % 9223372036854775808)))
      ∙ ap narrow_of (sym (sign_of binary64 b) ∙ of_bits-to_bits binary64 x f)

no_nan : (b r : ℕ) → b < 2 ^ 64 → r ≤ 0x7f80_0000 → T (not (nan_bits binary32 (b / 9223372036854775808 * 2147483648 + r)))
no_nan b r h k =
    let c = b / 9223372036854775808 * 2147483648 + r in
    let e : c % 2147483648 ≡ r = omega arith in
    subst (λ z. T (not z)) (sym (nan_bits_above binary32 c ∙ ap (ltb 2139095040) e ∙ le-ltb 2139095040 r k)) tt

held : (c : Start) → T (fits binary64 c.args.x)
held c = subst T (sym c.well_formed.0.1) tt

pub narrow_bits-r-requires : goal.narrow_bits-r-requires
narrow_bits-r-requires c = let x = c.args.x in top x (held c.before) (number x c.if-x.true)

wide_at : (c : After-narrow_bits-r) → to_bits binary64 c.args.x < 2 ^ 64
wide_at c = to_bits-lt binary64 c.args.x (held c.before.before)

pub overflow_mul-result : goal.overflow_mul-result
overflow_mul-result c = omega (arith, wide_at c)

pub overflow_add-result : goal.overflow_add-result
overflow_add-result c = omega (arith, wide_at c, c.narrow_bits-r.ensures.0)

pub overflow_cast-result : goal.overflow_cast-result
overflow_cast-result c = omega (arith, wide_at c, c.narrow_bits-r.ensures.0)

pub float_from_bits-result : goal.float_from_bits-result
float_from_bits-result c = no_nan (to_bits binary64 c.args.x) c.narrow_bits-r.result (wide_at c) c.narrow_bits-r.ensures.0

pub returns-then-x : goal.returns-then-x
returns-then-x c =
    let r = c.narrow_bits-r in
    signed c.args.x (held c.before.before) (number c.args.x c.if-x.true) r.result r.ensures.0 r.ensures.1

pub returns : goal.returns
unfolding of_bits div
returns c = rw (none c.args.x c.if-x.false) refl
