use mathlib.Core.Path.{refl}
use Rattle.cells.specs.Cell.{squares_of}
use Rattle.cells.proofs.squares.Goals as goal

pub returns : goal.returns
unfolding squares_of
returns c =
    rw (
      c.square.ensures,
      c.square-2.ensures,
      c.square-3.ensures,
      c.square-4.ensures,
      c.square-5.ensures,
      c.square-6.ensures,
      c.square-7.ensures,
      c.square-8.ensures,
    )
    refl
