-- The colours read so far.
use Rattle.std.specs.Prelude.{ℕ, List, take}
use Rattle.read_colors.specs.declared.held.Held.{Held}

-- those that are held, in the first places
abbrev pub colors_in : Held → List ℕ
colors_in h = take h.count h.colors
