use mathlib.Core.Path.{refl}
use Rattle.lists.specs.Counted.{all_below}
use Rattle.cells.proofs.alone.Goals as goal

pub returns : goal.returns
unfolding all_below
returns c =
    rw (
      c.passed-8.ensures,
      c.passed-7.ensures,
      c.passed-6.ensures,
      c.passed-5.ensures,
      c.passed-4.ensures,
      c.passed-3.ensures,
      c.passed-2.ensures,
      c.passed.ensures,
    )
    refl
