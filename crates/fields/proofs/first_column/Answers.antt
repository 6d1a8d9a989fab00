use Rattle.fields.proofs.Laws.{digit_least}
use Rattle.fields.specs.Fields.{column}
use borrow.Author.Tests.{eq-eqb, ne_eqb}
use mathlib.Core.Path.{sym, ◌∙◌}
use Rattle.fields.proofs.first_column.Goals as goal

pub returns-then-b-eq32 : goal.returns-then-b-eq32
unfolding column
returns-then-b-eq32 c = sym (simp (eq-eqb _ _ c.if-b-eq32.true))

pub digit-requires : goal.digit-requires
digit-requires c = digit_least _ (sym c.is_digit.ensures ∙ c.if-is_digit.true)

pub returns-then-is_digit : goal.returns-then-is_digit
unfolding column
returns-then-is_digit c = rw c.digit.ensures.0 (sym (simp (ne_eqb _ _ c.if-b-eq32.false, sym c.is_digit.ensures ∙ c.if-is_digit.true)))

pub returns : goal.returns
unfolding column
returns c = sym (simp (ne_eqb _ _ c.if-b-eq32.false, sym c.is_digit.ensures ∙ c.if-is_digit.false))
