use mathlib.Core.Path.{refl, sym, ap, ◌∙◌}
use Rattle.lists.specs.Counted.{all_in}
use Rattle.color_ctx.specs.Parts.{one_at}
use Rattle.color_ctx.proofs.Parts.{found_is, none_is, edge, edge_answer_holds}
use Rattle.color_ctx.proofs.from_one.Goals as goal

pub returns-in_err-v : goal.returns-in_err-v
unfolding one_at all_in
returns-in_err-v c =
    let lost = none_is c.args.map.now c.args.n c.args.at c.neighbour_at.ensures c.in_err-v.was in
    rw (c.from_residual.ensures, lost) refl

pub answer-requires : goal.answer-requires
answer-requires c =
    let below = (found_is c.args.map.now c.args.n c.args.at c.neighbour_at.ensures _ c.in_ok-v.was).2 in
    (below, below, below, c.requires)

pub returns : goal.returns
unfolding one_at all_in
returns c =
    let v = found_is c.args.map.now c.args.n c.args.at c.neighbour_at.ensures _ c.in_ok-v.was in
    ap edge c.answer.ensures ∙ edge_answer_holds _ _ ∙ sym (rw (v.0, v.1) refl)
