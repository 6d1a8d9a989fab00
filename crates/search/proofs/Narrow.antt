-- An f64 below 2 ^ 40 is finite as an f32.
use Prim.Native.Nat.{ℕ, ◌*◌, ◌^◌, ◌<◌}
use native.Mathlib.Nat.{le_trans, le_of_lt, mul-le-mul_right}
use lib.Dec.{lit<}
use lib.Ieee.{Float, fin, inf, nan, binary32, up, down}
use lib.Ieee.Fits.{down_pos}
use Rattle.ieee.specs.Bounds.{Under}
use Rattle.ieee.proofs.Bounds.{round_le, rep_scaled}
use Rattle.samples.specs.Narrow.{narrow_of}

pub narrow_under : (x : Float) (A : ℕ) → Under x A → A < 2 ^ 40 → Under (narrow_of x) (2 ^ 40)
narrow_under nan A u l = elim u [ ]
narrow_under (inf _) A u l = elim u [ ]
narrow_under (fin s m e) A u l =
    round_le binary32 s (m * up e) (down e) (2 ^ 40) (down_pos e) (le_trans u (mul-le-mul_right (down e) (le_of_lt l)))
    (rep_scaled binary32 1 40 (lit< tt) (lit< tt))
