-- The definitions, on single numbers.
use mathlib.Core.Path.{◌≡◌, refl}
use mathlib.Core.List.{[], ◌∷◌, map}
use lib.Ieee.{binary32, binary64, round, of_bits}
use Rattle.samples.specs.Samples.{level_of}
use Rattle.samples.specs.Narrow.{narrow_of}

-- 0.49999997, 0.5, -0.0 and 4094.5
levels : map level_of (map (of_bits binary32) (0x3eff_ffff ∷ 0x3f00_0000 ∷ 0x8000_0000 ∷ 0x457f_e800 ∷ []))
    ≡ 0 ∷ 1 ∷ 0 ∷ 4095 ∷ []
unfolding of_bits
levels = refl

-- 16777217 and 16777219 are ties, and go to the even neighbour; 2 ^ -150 is half of the smallest f32, and what is next above
-- it is nearer to that; 0.1; below 2 ^ 128 - 2 ^ 103, and that number, a tie which goes to the infinity; and -0.1, -0.0 and a NaN
narrowed : map (λ b. narrow_of (of_bits binary64 b)) (
    0x4170_0000_1000_0000 ∷ 0x4170_0000_3000_0000 ∷ 0x3690_0000_0000_0000 ∷ 0x3690_0000_0000_0001 ∷ 0x3fb9_9999_9999_999a
    ∷ 0x47ef_ffff_efff_ffff ∷ 0x47ef_ffff_f000_0000 ∷ 0xbfb9_9999_9999_999a ∷ 0x8000_0000_0000_0000
    ∷ 0x7ff8_0000_0000_0000 ∷ [])
    ≡ map (of_bits binary32) (
    0x4b80_0000 ∷ 0x4b80_0002 ∷ 0 ∷ 1 ∷ 0x3dcc_cccd ∷ 0x7f7f_ffff ∷ 0x7f80_0000 ∷ 0xbdcc_cccd ∷ 0x8000_0000
    ∷ 0x7fc0_0000 ∷ [])
unfolding of_bits round
narrowed = refl
