-- The places of a map's lines, and what a line's flag says. Assumes nothing.
use mathlib.Core.Bool.{Bool, true, false, false≢true}
use mathlib.Core.Path.{◌≡◌}
use Prim.Native.Nat.{ℕ, zero, suc, ◌+◌, ◌*◌, ◌<◌, ◌≤◌}
use native.Mathlib.Nat.{mul-le-mul_right}
use native.Mathlib.Omega.{arith}
use Rattle.context.specs.Map.{row_at, col_at, lines_of, length_of}
use Rattle.accept.specs.Accepted.{line_ok}

-- place a of line l lies in the block, and its cell in the map
pub record InBlock (t : Bool) (w h l a : ℕ) : Type 0 where
  pub row : row_at t l a < h
  pub column : col_at t l a < w
  pub place : row_at t l a * w + col_at t l a < w * h

pub in_block : (t : Bool) (w h l a : ℕ) → l < lines_of t w h → a < length_of t w h → InBlock t w h l a
in_block false w h l a p q = record { row = p; column = q; place = omega (arith, mul-le-mul_right w p) }
in_block true w h l a p q = record { row = q; column = p; place = omega (arith, mul-le-mul_right w q) }

module _ (at : ℕ → ℕ → ℕ) (len : ℕ) where
  pub flag_most : (f l : ℕ) → line_ok f at len l ≡ true → f ≤ 2
  unfolding line_ok
  flag_most zero l e = omega arith
  flag_most (suc zero) l e = omega arith
  flag_most (suc (suc zero)) l e = omega arith
  flag_most (suc (suc (suc f))) l e = absurd (false≢true e)

  pub flag_first : (f : ℕ) → line_ok f at len 0 ≡ true → f ≤ 1
  unfolding line_ok
  flag_first zero e = omega arith
  flag_first (suc zero) e = omega arith
  flag_first (suc (suc zero)) e = absurd (false≢true e)
  flag_first (suc (suc (suc f))) e = absurd (false≢true e)
