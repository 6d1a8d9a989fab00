use mathlib.Core.Path.{◌≡◌, refl}
use Prim.Native.Nat.{ℕ, ◌*◌, ◌%◌, ◌^◌, ◌≤◌}
use native.Mathlib.Nat.{one-mul, mod-eq_of_lt}
use native.Mathlib.Omega.{arith}
use lib.Pow.{pow-lt, pow_pos}
use Rattle.counts.proofs.top_level.Goals as goal

-- 1 << bd in 16 bits
shifted : (bd : ℕ) → bd ≤ 12 → 1 * 2 ^ bd % 2 ^ 16 ≡ 2 ^ bd
shifted bd h = rw one-mul (mod-eq_of_lt (pow-lt {i = bd} {j = 16} (omega arith)))

pub overflow_sub-result : goal.overflow_sub-result
overflow_sub-result c = rw (shifted c.args.bd c.requires) (pow_pos c.args.bd)

pub returns : goal.returns
returns c = rw (shifted c.args.bd c.requires) refl
