use mathlib.Core.Path.{◌≡◌, sym, ◌∙◌}
use mathlib.Core.Bool.{true, false, ◌||◌}
use lib.Dec.{eqb}
use Rattle.respond.specs.Number.{answer_number}
use Rattle.respond.proofs.number_of.Goals as goal

pub returns-then-b-long : goal.returns-then-b-long
unfolding answer_number
returns-then-b-long c =
    let a = c.args in
    let own : eqb a.b.taken 0 || eqb a.b.taken a.long ≡ true = c.if-b-long.true in
    sym (simp own)

pub returns : goal.returns
unfolding answer_number
returns c =
    let a = c.args in
    let other : eqb a.b.taken 0 || eqb a.b.taken a.long ≡ false = c.if-b-long.false in
    c.number.ensures ∙ sym (simp other)
