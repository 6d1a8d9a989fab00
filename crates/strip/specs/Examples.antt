-- Numbers and places of small strips, worked out from document 02's L6. Proved in proofs/Examples.antt.
use Rattle.std.specs.Prelude.{◌≡◌, List, [], ◌∷◌, ℕ, replicate}
use Rattle.lists.specs.Counted.{part_of}
use Rattle.strip.specs.Strip.{cells_at, lines_at, strip_number}

-- 16 by 2, then 3 by 20: 92 places in samples and map, 36 in flags
abbrev pub two : List ℕ
two = 16 ∷ 2 ∷ 3 ∷ 20 ∷ []

abbrev pub Numbers : Type 0
Numbers =
    (strip_number two 92 92 36 ≡ 0) × (strip_number two 92 93 40 ≡ 0)
    -- no block, half a pair, 65 blocks; ahead of a wrong side
    × (strip_number [] 0 0 0 ≡ 19) × (strip_number (16 ∷ []) 16 16 16 ≡ 19) × (strip_number (0 ∷ []) 0 0 0 ≡ 19)
    × (strip_number (replicate 130 1) 65 65 65 ≡ 19) × (strip_number (replicate 128 1) 64 64 64 ≡ 0)
    -- a side of 0 or 65, ahead of wrong totals
    × (strip_number (0 ∷ 1 ∷ []) 9 0 0 ≡ 1) × (strip_number (16 ∷ 65 ∷ []) 1040 1040 65 ≡ 1) × (strip_number (64 ∷ 64 ∷ []) 4096 4096 64 ≡ 0)
    -- a sample too few or too many, ahead of short rooms
    × (strip_number two 91 0 0 ≡ 3) × (strip_number two 93 93 36 ≡ 3)
    -- short room for maps, for flags
    × (strip_number two 92 91 36 ≡ 7) × (strip_number two 92 92 35 ≡ 7)

-- 2 by 1, then 1 by 3: two places and then three in either list
abbrev pub PartsOf : Type 0
PartsOf =
    let sides : List ℕ = 2 ∷ 1 ∷ 1 ∷ 3 ∷ [] in
    let places : List ℕ = 10 ∷ 11 ∷ 12 ∷ 13 ∷ 14 ∷ 15 ∷ [] in
    (part_of (cells_at sides) places 0 ≡ 10 ∷ 11 ∷ []) × (part_of (cells_at sides) places 1 ≡ 12 ∷ 13 ∷ 14 ∷ [])
    × (part_of (lines_at sides) places 0 ≡ 10 ∷ 11 ∷ []) × (part_of (lines_at sides) places 1 ≡ 12 ∷ 13 ∷ 14 ∷ [])
