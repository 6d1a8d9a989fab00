use Rattle.std.proofs.lemmas.List.{drop-take}
use mathlib.Core.Bool.{false}
use mathlib.Core.Path.{refl, sym, ap, ◌∙◌}
use native.Mathlib.Omega.{arith}
use lib.ListN.{take, drop}
use lib.Ieee.{inf, of_bits, div}
use Rattle.sizes.specs.Sizes.{least_of}
use Rattle.sizes.proofs.Turns.{least_turn, least_done}
use Rattle.sizes.proofs.least_row.Goals as goal
use Rattle.sizes.proofs.least_row.Goals.{then-cost-least, else-cost-least}

pub loop-cost-init : goal.loop-cost-init
unfolding of_bits div
loop-cost-init c = ap (least_of (inf false)) (sym (drop-take 9 12 c.args.costs.now))

pub loop-cost-preserved : goal.loop-cost-preserved
loop-cost-preserved c =
    let l = c.loop-cost in
    least_turn (take 12 (drop 9 c.args.costs.now)) l.cost-index l.least c.if-cost-least.least (omega arith)
    (elim c.if-cost-least.branch [
      | then-cost-least w ↦ w.least-is ∙ rw w.if-cost-least.true refl
      | else-cost-least w ↦ w.least-is ∙ rw w.if-cost-least.false refl
    ])
    ∙ l.invariant

pub returns : goal.returns
returns c =
    let l = c.loop-cost in
    sym (least_done (take 12 (drop 9 c.args.costs.now)) l.cost-index l.least (omega arith)) ∙ l.invariant
