use Rattle.fields.specs.Fields.{column}
use mathlib.Core.Path.{refl, sym, ◌∙◌}
use Rattle.fields.proofs.read_column.Goals as goal

pub returns-in-Blank : goal.returns-in-Blank
unfolding column
returns-in-Blank c = c.first_column.ensures ∙ sym (rw c.in-Blank.is refl)

pub returns-in-Number : goal.returns-in-Number
unfolding column
returns-in-Number c = c.next_column.ensures ∙ sym (rw c.in-Number.is refl)

pub returns-in-Bad : goal.returns-in-Bad
unfolding column
returns-in-Bad c = sym (rw c.in-Bad.is refl)
