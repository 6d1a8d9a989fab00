-- Sums of f32 that are bounded by powers of two, and the square of a difference of samples. Assumes nothing.
use Prim.Native.Nat.{ℕ, suc, ◌+◌, ◌*◌, ◌^◌, ◌≤◌, ◌<◌}
use mathlib.Core.Bool.{false}
use mathlib.Core.Path.{sym, subst}
use native.Mathlib.Omega.{arith}
use native.Mathlib.Nat.{le_trans, suc-mul}
use lib.Dec.{lit≤, lit<}
use lib.Pow.{pow_mono, shl_lt}
use lib.Ieee.{Float, binary32, add, sub}
use lib.Ieee.Back.{round_whole}
use Rattle.ieee.specs.Bounds.{Under, Within}
use Rattle.ieee.proofs.Bounds.{Rep, rep_scaled, sub_under, under_mono, add_within, square_within}
use Rattle.cells.specs.Cell.{square}

-- f32 holds k * 2 ^ j
pub rep_sum : (k j : ℕ) → k < 2 ^ 24 → j ≤ 60 → Rep binary32 (k * 2 ^ j)
rep_sum k j few small =
    let room : 24 + (j + 149) ≤ 277 = omega arith in
    rep_scaled binary32 k j few (further (shl_lt 24 (j + 149) few) (pow_mono room))
  where
    further : {a b c : ℕ} → a < b → b ≤ c → a < c
    further p q = le_trans p q

-- k values within 2 ^ j, and one more
pub more_within : (sum x : Float) (k j : ℕ) → suc k < 2 ^ 24 → j ≤ 60 → Within sum (k * 2 ^ j) → Within x (2 ^ j)
    → Within (add binary32 sum x) (suc k * 2 ^ j)
more_within sum x k j few small a b =
    let rep : Rep binary32 (k * 2 ^ j + 2 ^ j) = subst (Rep binary32) (suc-mul k (2 ^ j)) (rep_sum (suc k) j few small) in
    subst (Within (add binary32 sum x)) (sym (suc-mul k (2 ^ j))) (add_within binary32 sum x (k * 2 ^ j) (2 ^ j) a b rep)

pub square_bound : (x c : Float) → Within x 4095 → Within c 4095 → Within (square x c) (2 ^ 26)
square_bound x c a b =
    let difference : Under (sub binary32 x c) 8190 = sub_under binary32 x c 4095 4095 a.0 b.0 (round_whole binary32 false 8190 (lit≤ tt)) in
    square_within binary32 (sub binary32 x c) 8192 (under_mono (sub binary32 x c) 8190 8192 (lit≤ tt) difference) (rep_sum 1 26 (lit< tt) (lit≤ tt))
