use Rattle.fields.proofs.Laws.{digit_least}
use Rattle.fields.specs.Fields.{column}
use borrow.Author.Tests.{lt-ltb, le-ltb, eq-eqb, ne_eqb}
use mathlib.Core.Path.{sym, ◌∙◌}
use Rattle.fields.proofs.next_column.Goals as goal

pub returns-then-v-eq0 : goal.returns-then-v-eq0
unfolding column
returns-then-v-eq0 c = sym (simp (sym c.is_digit.ensures ∙ c.if-is_digit.true, eq-eqb _ _ c.if-v-eq0.true))

pub digit-requires : goal.digit-requires
digit-requires c = digit_least _ (sym c.is_digit.ensures ∙ c.if-is_digit.true)

pub returns-then-v-lt10000000 : goal.returns-then-v-lt10000000
unfolding column
returns-then-v-lt10000000 c = rw c.digit.ensures.0 (sym (simp (
  sym c.is_digit.ensures ∙ c.if-is_digit.true,
  ne_eqb _ _ c.if-v-eq0.false,
  lt-ltb _ _ c.if-v-lt10000000.true,
)))

pub returns-else-v-lt10000000 : goal.returns-else-v-lt10000000
unfolding column
returns-else-v-lt10000000 c = sym (simp (sym c.is_digit.ensures ∙ c.if-is_digit.true, ne_eqb _ _ c.if-v-eq0.false, le-ltb _ _ c.if-v-lt10000000.false))

pub returns-else-is_digit : goal.returns-else-is_digit
unfolding column
returns-else-is_digit c = sym (simp (sym c.is_digit.ensures ∙ c.if-is_digit.false))
