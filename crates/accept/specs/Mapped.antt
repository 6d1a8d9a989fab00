-- The palette in a `Mapped`, and the cells of its map by line and place.
use Rattle.std.specs.Prelude.{ℕ}
use Rattle.context.specs.Map.{line_cell, length_of}
use Rattle.accept.specs.Palette.{Palette, palette_of}
use Rattle.accept.specs.declared.Mapped.{Mapped}

abbrev pub palette_in : Mapped → Palette
palette_in m = palette_of m.colors m.n m.transposed m.map.now m.flags.now

abbrev pub cells_in : Mapped → ℕ → ℕ → ℕ
cells_in m = line_cell m.transposed m.map.now m.width

abbrev pub length_in : Mapped → ℕ
length_in m = length_of m.transposed m.width m.height
