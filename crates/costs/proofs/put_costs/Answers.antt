use mathlib.Core.Path.{sym, ◌∙◌}
use native.Mathlib.Omega.{arith}
use lib.Ieee.{nan}
use Rattle.lists.proofs.Counted.{length_up_to}
use Rattle.lists.proofs.Each.{each_at, starts, more, whole}
use Rattle.costs.specs.Costs.{cost_in}
use Rattle.costs.proofs.put_costs.Goals as goal

pub loop-s-init : goal.loop-s-init
loop-s-init c = starts nan _ _ (sym (length_up_to _ _))

pub loop-s-preserved : goal.loop-s-preserved
loop-s-preserved c =
    let l = c.loop-s in
    let h = c.loop-s-test.true in
    more nan _ l.costs l.s c.cost_in.result l.invariant (omega (arith, l.invariant.count))
    (c.cost_in.ensures ∙ sym (each_at nan (cost_in c.args.row.now) _ l.s (omega arith)))

pub returns : goal.returns
returns c = let l = c.loop-s in whole nan _ l.costs l.s l.invariant (omega (arith, l.invariant.count, c.loop-s-test.false))
