-- The neighbours by their distance from the cell. Assumes nothing.
use mathlib.Core.Path.{◌≡◌, refl}
use mathlib.Core.List.{List}
use Prim.Native.Nat.{ℕ, zero, suc, ◌+◌, ◌-◌, ◌*◌, ◌<◌, ◌≤◌}
use native.Mathlib.Nat.{suc-mul, mul-le-mul_right}
use native.Mathlib.Omega.{arith}
use lib.ListN.{get_or}
use Rattle.context.specs.Map.{cell}
use Rattle.context.specs.Order.{by_three, around}

-- the neighbours by their distance from the cell
module _ (map : List ℕ) (w : ℕ) where
  pub around_three : (y x : ℕ) → 0 < y → 0 < x
      → around by_three map w y x ≡ by_three (get_or map (y * w + x - 1) 0) (get_or map (y * w + x - w) 0) (get_or map (y * w + x - w - 1) 0)
  unfolding around cell
  around_three zero x h k = absurd (omega arith)
  around_three (suc y) zero h k = absurd (omega arith)
  around_three (suc y) (suc x) h k =
      let l : suc y * w + suc x - 1 ≡ suc y * w + x = omega arith in
      let t : suc y * w + suc x - w ≡ y * w + suc x = omega (arith, suc-mul y w) in
      let d : suc y * w + suc x - w - 1 ≡ y * w + x = omega (arith, suc-mul y w) in
      rw (d, t, l) refl

-- a row above
pub row_above : (y w : ℕ) → 0 < y → w ≤ y * w
row_above y w h = omega (arith, mul-le-mul_right w h)
