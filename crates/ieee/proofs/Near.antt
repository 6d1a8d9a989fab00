-- How far rounding goes: a fraction of at most 2 ^ j rounds to a value within 2 ^ (j - prec) of it.
use mathlib.Core.Path.{◌≡◌, refl, ap}
use mathlib.Core.Bool.{Bool, true, false, cond}
use Prim.Native.Nat.{ℕ, suc, ◌+◌, ◌-◌, ◌*◌, ◌/◌, ◌%◌, ◌^◌, ◌≤◌, ◌<◌}
use native.Mathlib.Nat.{mul-pos, le_of_eq, mul-le-mul_right, mul-le-mul_left, le_of_mul-le-mul_right, mod-lt}
use native.Mathlib.Nat.{div-add-mod', div-le_of_le-mul, lt_of_le_of_lt, pow-suc}
use native.Mathlib.Omega.{arith}
use lib.Dec.{eqb, leb}
use lib.Pow.{pow-add, pow_pos, pow-lt, pow_mono}
use lib.Ieee.{Float, Format, prec, emax, low, round}
use lib.Ieee.Digits.{size-le}
use lib.Ieee.Nearest.{closest}
use lib.Ieee.Order.{drop}
use lib.Ieee.Exact.{HasValue}
use lib.Ieee.Scale.{grid, round_val}
use borrow.Author.Tests.{eqb-true, leb-true, leb-false}
use Rattle.ieee.proofs.HalfEven.{closest_is}

-- q * u is within half of u of n
abbrev Close : ℕ → ℕ → ℕ → Type 0
Close q n u = (2 * (q * u) ≤ 2 * n + u) × (2 * n ≤ 2 * (q * u) + u)

closest_near : (n u : ℕ) → 0 < u → Close (closest n u) n u
closest_near n u U =
    rw (closest_is n u) (go (eqb (n % u * 2) u) (leb (n % u * 2) u) refl refl (div-add-mod' n u) (mod-lt n U))
  where
    go : (s t : Bool) → eqb (n % u * 2) u ≡ s → leb (n % u * 2) u ≡ t → n / u * u + n % u ≡ n → n % u < u
        → Close (cond s (n / u + n / u % 2) (cond t (n / u) (suc (n / u)))) n u
    go true t e l w r =
        let odd : n / u % 2 ≤ 1 = omega arith in
        let k = mul-le-mul_right u odd in
        let h = eqb-true (n % u * 2) u e in
        (omega arith, omega arith)
    go false true e l w r = let h = leb-true (n % u * 2) u l in (omega arith, omega arith)
    go false false e l w r = let h = leb-false (n % u * 2) u l in (omega arith, omega arith)

-- x is v units of 2 ^ -low, within half of 2 ^ d units of a / c
pub record Near (f : Format) (x : Float) (a c d : ℕ) : Type 0 where
  pub v : ℕ
  pub value : HasValue x false v (2 ^ low f)
  pub over : 2 * (v * c) ≤ 2 * (a * 2 ^ low f) + c * 2 ^ d
  pub under : 2 * (a * 2 ^ low f) ≤ 2 * (v * c) + c * 2 ^ d

module _ (f : Format) (a c j : ℕ) (C : 0 < c) (h : a ≤ 2 ^ j * c) (r : j < emax f) where
  abbrev units : ℕ
  units = a * 2 ^ low f

  abbrev k : ℕ
  k = drop (prec f) (a * 2 ^ low f) c

  abbrev d : ℕ
  d = suc (j + low f) - prec f

  units_le : units ≤ 2 ^ (j + low f) * c
  units_le = rw (pow-add 2 j (low f)) (omega (arith, mul-le-mul_right (2 ^ low f) h))

  -- so many digits are dropped at most
  wide : c * 2 ^ k ≤ c * 2 ^ d
  wide =
      let whole : units / c ≤ 2 ^ (j + low f) = div-le_of_le-mul c (omega (arith, units_le)) in
      let digits = size-le (units / c) (suc (j + low f)) (lt_of_le_of_lt whole (pow-lt (le_of_eq refl))) in
      mul-le-mul_left c (pow_mono (omega (arith, digits)))

  near : Close (closest units (c * 2 ^ k)) units (c * 2 ^ k)
  near = closest_near units (c * 2 ^ k) (mul-pos C (pow_pos k))

  over : 2 * (grid f a c * c) ≤ 2 * units + c * 2 ^ d
  over = omega (arith, near.0, wide)

  pub round_near : Near f (round f false a c) a c d
  round_near =
      let top : 2 ^ d ≤ 2 ^ suc (j + low f) = pow_mono (omega arith) in
      let twice : 2 ^ suc (j + low f) ≡ 2 ^ (j + low f) * 2 = pow-suc 2 (j + low f) in
      let g : grid f a c * c ≤ 2 ^ suc (j + low f) * c =
      omega (arith, over, units_le, mul-le-mul_left c top, ap (λ z. c * z) twice) in
      let room : suc (j + low f) < low f + suc (emax f) = omega arith in
      let fits = lt_of_le_of_lt (le_of_mul-le-mul_right g C) (pow-lt room) in
      record { v = grid f a c; value = round_val f a c fits; over = over; under = omega (arith, near.1, wide) }
