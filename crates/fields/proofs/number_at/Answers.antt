use Rattle.fields.specs.Fields.{number_of}
use mathlib.Core.Path.{ap, ◌∙◌}
use Rattle.fields.proofs.number_at.Goals as goal

pub returns : goal.returns
returns c = c.number_of.ensures ∙ ap number_of c.field_at.ensures
