-- `palette_strip` answers as `search_strip`, with each answer's number, n, colours and orientation in a row of eleven, and its head
-- and map bits in a pair (document 02, L8).
use Rattle.std.specs.Prelude.{◌≡◌, List, ◌∷◌, ℕ, ◌≤◌, get_or, Float}
use Rattle.lists.specs.Counted.{up_to}
use Rattle.accept.specs.declared.Palette.{Palette}
use Rattle.accept.specs.Answer.{refused_by}
use Rattle.strip.specs.Strip.{Strips}
use Rattle.station.specs.Searched.{fields_of, bits_of}

abbrev pub row_of : Palette → List ℕ
row_of p = p.number ∷ fields_of p.n p.colors p.transposed

abbrev pub row_at : List Palette → ℕ → List ℕ
row_at answers i = row_of (get_or answers i (refused_by 0))

abbrev pub rows_of : List Palette → List ℕ
rows_of answers = up_to (row_at answers) 64

abbrev pub pair_at : List Palette → ℕ → List Float
pair_at answers i = bits_of (get_or answers i (refused_by 0))

abbrev pub pairs_of : List Palette → List Float
pairs_of answers = up_to (pair_at answers) 64

-- no answer has more than eight colours
abbrev pub Few : List Palette → Type 0
Few answers = (i : ℕ) → (get_or answers i (refused_by 0)).n ≤ 8

pub record StripsTo (sides : List ℕ) (samples costs : List Float) (bd : ℕ) (lambda : Float) (map₀ map flags₀ flags rows : List ℕ)
    (bits : List Float) (r : ℕ) : Type 0 where
  pub answers : List Palette
  pub strips : Strips sides samples costs bd lambda map₀ map flags₀ flags (record { number = r; answers = answers })
  pub fields : rows ≡ rows_of answers
  pub counted : bits ≡ pairs_of answers
