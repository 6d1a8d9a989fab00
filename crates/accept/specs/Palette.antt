-- A palette as the rules speak of it, and as the arguments of a call give it.
use Rattle.std.specs.Prelude.{ℕ, Bool, cond, List, [], leb, take}

pub record Palette : Type 0 where
  pub colors : List ℕ
  pub transposed : Bool
  pub flags : List ℕ
  pub map : List ℕ

-- the first n of eight colours; none where n is above 8
unfoldable pub first_colors : List ℕ → ℕ → List ℕ
first_colors colors n = cond (leb n 8) (take n colors) []

abbrev pub palette_of : List ℕ → ℕ → Bool → List ℕ → List ℕ → Palette
palette_of colors n t map flags = record { colors = first_colors colors n; transposed = t; flags = flags; map = map }
