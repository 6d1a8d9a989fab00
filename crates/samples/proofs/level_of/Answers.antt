use mathlib.Core.Path.{◌≡◌, sym, ap, ◌∙◌, subst}
use Prim.Native.Nat.{ℕ, ◌+◌, ◌-◌, ◌/◌, ◌%◌, ◌^◌, ◌≤◌, ◌<◌}
use native.Mathlib.Nat.{lt_of_lt_of_le}
use native.Mathlib.Omega.{arith}
use lib.Dec.{T, leb}
use lib.Pow.{pow_mono, shr_lt}
use lib.Ieee.{Float, binary32, fits, of_bits, to_bits}
use lib.Ieee.Bits.{of_bits-to_bits}
use Rattle.ieee.specs.Bounds.{Under}
use Rattle.ieee.proofs.Signs.{resign}
use Rattle.samples.specs.Samples.{level_of}
use Rattle.samples.proofs.Fields.{sign_of}
use Rattle.samples.proofs.Values.{under_number}
use Rattle.samples.proofs.Level.{level_sign, under_sign, low, high}
use Rattle.samples.proofs.level_of.Goals as goal

-- `samples::level_of` meets its contract. Assumes nothing.
-- x without its sign
module _ (x : Float) (f : T (fits binary32 x)) where
  unsigned : x ≡ resign (leb 2147483648 (to_bits binary32 x)) (of_bits binary32 (to_bits binary32 x % 2147483648))
  unsigned = sym (of_bits-to_bits binary32 x f) ∙ sign_of binary32 (to_bits binary32 x)

  same : level_of (of_bits binary32 (to_bits binary32 x % 2147483648)) ≡ level_of x
  same =
      sym (ap level_of unsigned
      ∙ level_sign (leb 2147483648 (to_bits binary32 x)) (of_bits binary32 (to_bits binary32 x % 2147483648)))

  bounded : Under x 4095 → Under (of_bits binary32 (to_bits binary32 x % 2147483648)) 4095
  bounded u =
      under_sign (leb 2147483648 (to_bits binary32 x)) (of_bits binary32 (to_bits binary32 x % 2147483648)) 4095
      (subst (λ z. Under z 4095) unsigned u)

held : (c : goal.Start) → T (fits binary32 c.args.x)
held c = subst T (sym c.well_formed.0.1) tt

pub float_to_bits-b : goal.float_to_bits-b
float_to_bits-b c = under_number c.args.x 4095 c.requires.0

pub returns-then-e-lt126 : goal.returns-then-e-lt126
returns-then-e-lt126 c =
    let x = c.args.x in
    low (to_bits binary32 x % 2147483648) (omega arith) (bounded x (held c.before) c.requires.0) c.if-e-lt126.true ∙ same x (held c.before)

-- from 0.5 on
rounded : (c : goal.Else-e-lt126)
    → let x = c.args.x in
    let b = to_bits binary32 x % 2147483648 in
    (b / 8388608 ≤ 138) × (((b % 8388608 + 8388608) / 2 ^ (149 - b / 8388608) + 1) / 2 ≡ level_of x)
rounded c =
    let x = c.args.x in
    let h = high (to_bits binary32 x % 2147483648) (omega arith) (bounded x (held c.before) c.requires.0) (omega (arith, c.if-e-lt126.false)) in
    (h.0, h.1 ∙ same x (held c.before))

small : (m e : ℕ) → m < 2 ^ 24 → e ≤ 138 → m / 2 ^ (149 - e) < 2 ^ 13
small m e h l = shr_lt 13 (149 - e) (lt_of_lt_of_le h (pow_mono {i = 24} {j = 13 + (149 - e)} (omega arith)))

small_at : (c : goal.Else-e-lt126)
    → let b = to_bits binary32 c.args.x % 2147483648 in
    (b % 8388608 + 8388608) / 2 ^ (149 - b / 8388608) < 2 ^ 13
small_at c =
    let b = to_bits binary32 c.args.x % 2147483648 in
    small (b % 8388608 + 8388608) (b / 8388608) (omega arith) (rounded c).0

pub overflow_sub-result : goal.overflow_sub-result
overflow_sub-result c = omega (arith, (rounded c).0)

pub overflow_add-result : goal.overflow_add-result
overflow_add-result c = omega (arith, small_at c)

pub overflow_cast-result : goal.overflow_cast-result
overflow_cast-result c = omega (arith, small_at c)

pub returns : goal.returns
returns c = (rounded c).1
