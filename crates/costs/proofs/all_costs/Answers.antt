use mathlib.Core.Path.{refl}
use Rattle.costs.proofs.Begun.{begins, turn, ends}
use Rattle.costs.proofs.all_costs.Goals as goal

pub loop-r-init : goal.loop-r-init
loop-r-init c = begins _ _ refl

pub loop-r-preserved : goal.loop-r-preserved
loop-r-preserved c =
    let l = c.loop-r in
    turn _ l.costs l.r l.invariant c.loop-r-test.true c.row_at-row.result c.row_at-row.ensures.row _ _
    c.row_of-used.ensures
    c.put_costs.ensures

pub returns : goal.returns
returns c = let l = c.loop-r in ends _ l.costs l.r l.invariant c.loop-r-test.false
