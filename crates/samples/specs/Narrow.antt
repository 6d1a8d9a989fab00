-- An f64 as an f32.
use Rattle.std.specs.Prelude.{◌*◌, Float}
use Rattle.std.specs.Float.{nan, inf, fin, binary32}
use Rattle.std.specs.Float.Ieee.{up, down, round}

-- Rust's `as f32`: the nearest f32, ties to even. From 2 ^ 128 - 2 ^ 103 on that is an infinity.
abbrev pub narrow_of : Float → Float
narrow_of nan = nan
narrow_of (inf s) = inf s
narrow_of (fin s m e) = round binary32 s (m * up e) (down e)
