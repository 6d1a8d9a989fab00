-- The answer that search and reading share, and the rooms that both ask for.
use Rattle.std.specs.Prelude.{ℕ, ◌*◌, max, Bool, false, ◌&&◌, List, leb, replicate}
use Rattle.std.specs.Float.{binary32}
use Rattle.std.specs.Float.Ieee.{of_bits}
use Rattle.accept.specs.declared.Palette.{Palette}

-- 7: room for every cell, and for one flag per line of either orientation, that is, for as many as the longer side has
abbrev pub rooms_ok : ℕ → ℕ → ℕ → ℕ → Bool
rooms_ok w h cells lines = leb (w * h) cells && leb (max w h) lines

-- document 02, L8: head and map bits are 0 where search did not make the palette
abbrev pub uncounted : ℕ → ℕ → List ℕ → Bool → Palette
uncounted number n colors transposed =
    let zero = of_bits binary32 0 in
    record { number = number; n = n; colors = colors; transposed = transposed; head = zero; map_bits = zero }

-- a refusal has zeros in every other field
abbrev pub refused_by : ℕ → Palette
refused_by k = uncounted k 0 (replicate 8 0) false
