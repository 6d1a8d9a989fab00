use mathlib.Core.Path.{◌≡◌, sym, ◌∙◌}
use mathlib.Core.Bool.{true}
use native.Mathlib.Omega.{arith}
use borrow.Author.Count.{below_more}
use Rattle.lists.proofs.Counted.{all_below_not, all_below_of}
use Rattle.costs.specs.Rows.{number_ok, row_ok}
use Rattle.costs.proofs.row_ok.Goals as goal

pub returns-then-not-number_ok : goal.returns-then-not-number_ok
unfolding row_ok
returns-then-not-number_ok c =
    let a = c.args in
    sym (all_below_not (number_ok a.used a.row.now) _ c.loop-s.s c.loop-s-test.true
    (sym c.number_ok.ensures ∙ c.if-not-number_ok.true))

pub loop-s-preserved : goal.loop-s-preserved
loop-s-preserved c =
    let a = c.args in
    below_more (λ i. number_ok a.used a.row.now i ≡ true) c.loop-s.s c.loop-s.invariant
    (sym c.number_ok.ensures ∙ c.if-not-number_ok.false)

pub returns : goal.returns
unfolding row_ok
returns c =
    let a = c.args in
    sym (all_below_of (number_ok a.used a.row.now) _ (λ i h. c.loop-s.invariant i (omega arith)))
