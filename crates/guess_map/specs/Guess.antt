-- What a guess asks of a line's map. Assumes nothing.
use Rattle.std.specs.Prelude.{ℕ, ◌<◌, List, length}
use Rattle.near.specs.Near.{Below}
use Rattle.scan.specs.declared.Scan.{Scan}
use Rattle.scan.specs.Scan.{Sound}

-- line l is one of the map's, and all of its cells are below 8
abbrev pub OnLine : Scan → ℕ → List ℕ → Type 0
OnLine s l map = Sound s (length map) × (l < s.lines) × Below map 8
