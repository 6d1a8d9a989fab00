use mathlib.Core.Path.{refl}
use Rattle.text.specs.Text.{header_at}
use Rattle.text.proofs.read_header.Goals as goal

pub returns : goal.returns
unfolding header_at
returns c =
    rw (
      c.number_at.ensures,
      c.number_at-2.ensures,
      c.number_at-3.ensures,
      c.number_at-4.ensures,
      c.number_at-5.ensures,
      c.number_at-6.ensures,
    ) refl
