use Rattle.cells.specs.Cell.{squares_of}
use mathlib.Core.Path.{refl}
use Rattle.map_search.proofs.add_squares.Goals as goal

pub returns : goal.returns
unfolding squares_of
returns c = rw c.squares-d.ensures refl
