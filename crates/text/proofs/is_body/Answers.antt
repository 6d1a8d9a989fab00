use mathlib.Core.Path.{refl}
use Rattle.text.specs.Text.{is_body}
use Rattle.text.proofs.is_body.Goals as goal

pub returns : goal.returns
unfolding is_body
returns c =
    rw (
      c.is_line.ensures,
      c.is_line-2.ensures,
      c.is_line-3.ensures,
      c.are_rows.ensures,
      c.lines_in.ensures.0,
      c.places_of-p.ensures.value,
    ) refl
