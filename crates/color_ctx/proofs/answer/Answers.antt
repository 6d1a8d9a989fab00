use mathlib.Core.Path.{◌≡◌, refl, ap, ◌∙◌}
use native.Mathlib.Omega.{arith}
use Rattle.context.specs.Order.{Around}
use Rattle.color_ctx.specs.Context.{answered}
use Rattle.color_ctx.proofs.Filling.{row_known, order_turn, ranks_turn, filled}
use Rattle.color_ctx.proofs.answer.Goals as goal

pub loop-i-init : goal.loop-i-init
loop-i-init c = (refl, refl)

pub loop-i-preserved : goal.loop-i-preserved
loop-i-preserved c =
    let a = c.args in
    let known = row_known _ _ _ _ a.n c.row_of-row.ensures c.requires.0 c.requires.1 c.requires.2 c.requires.3 in (
      rw (c.from-at.ensures, c.loop-i.invariant.0) (order_turn _ a.n known.0 c.requires.3 c.loop-i.i _ c.loop-i-test.true c.index_at.ensures),
      rw (c.from-at.ensures, c.loop-i.invariant.1) (ranks_turn _ a.n known.0 c.requires.3 c.loop-i.i _ c.loop-i-test.true c.rank_at-rank.ensures),
    )

pub returns : goal.returns
returns c =
    let a = c.args in
    let known = row_known _ _ _ _ a.n c.row_of-row.ensures c.requires.0 c.requires.1 c.requires.2 c.requires.3 in
    let e : c.loop-i.i ≡ a.n = omega arith in
    rw (c.ctx_at.ensures, c.loop-i.invariant.0, c.loop-i.invariant.1, e) (filled _ _ known.0 c.requires.3)
    ∙ ap (λ (x : Around). answered x a.n) known.1
