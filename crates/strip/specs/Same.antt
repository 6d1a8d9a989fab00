-- Document 02, L6: each block's number and answer are those of a separate call with its part of the buffers. Proved in proofs/Same.antt.
use Rattle.std.specs.Prelude.{◌≡◌, List, ℕ, ◌<◌, get_or, Float}
use Rattle.lists.specs.Counted.{part_of}
use Rattle.accept.specs.declared.Palette.{Palette}
use Rattle.accept.specs.Answer.{refused_by}
use Rattle.search.specs.Search.{Searches}
use Rattle.strip.specs.declared.Strip.{Strip}
use Rattle.strip.specs.Strip.{blocks_in, block_at, cells_at, lines_at, Strips}

-- Whatever a separate call of the search answers and leaves, the strip has at the block's place.
abbrev pub SameAsSeparate : Type 0
SameAsSeparate =
    (sides : List ℕ) (samples costs : List Float) (bd : ℕ) (lambda : Float) (map₀ map flags₀ flags : List ℕ) (r : Strip)
    → Strips sides samples costs bd lambda map₀ map flags₀ flags r → r.number ≡ 0 → (i : ℕ) → i < blocks_in sides
    → (cells lines : List ℕ) (p : Palette)
    → Searches (part_of (cells_at sides) samples i) costs (block_at sides bd lambda i) (part_of (cells_at sides) map₀ i) cells
    (part_of (lines_at sides) flags₀ i) lines p
    → (get_or r.answers i (refused_by 0) ≡ p) × (part_of (cells_at sides) map i ≡ cells) × (part_of (lines_at sides) flags i ≡ lines)

-- Once the strip is not refused, no block of it is refused for its sides, its count of samples or its rooms.
abbrev pub NeverOneThreeSeven : Type 0
NeverOneThreeSeven =
    (sides : List ℕ) (samples costs : List Float) (bd : ℕ) (lambda : Float) (map₀ map flags₀ flags : List ℕ) (r : Strip)
    → Strips sides samples costs bd lambda map₀ map flags₀ flags r → r.number ≡ 0 → (i : ℕ) → i < blocks_in sides
    → let number = (get_or r.answers i (refused_by 0)).number in (number ≡ 1 → ⊥) × (number ≡ 3 → ⊥) × (number ≡ 7 → ⊥)

-- Equal input gives an equal answer and equal buffers: the contract leaves nothing open.
abbrev pub StripsOnce : Type 0
StripsOnce =
    (sides : List ℕ) (samples costs : List Float) (bd : ℕ) (lambda : Float) (map₀ m m' flags₀ f f' : List ℕ) (r r' : Strip)
    → Strips sides samples costs bd lambda map₀ m flags₀ f r → Strips sides samples costs bd lambda map₀ m' flags₀ f' r'
    → (r.number ≡ r'.number) × ((i : ℕ) → get_or r.answers i (refused_by 0) ≡ get_or r'.answers i (refused_by 0))
    × (m ≡ m') × (f ≡ f')
