-- Each turn but the last adds a line, and the last is the 10,000th at the latest. Assumes nothing.
use Rattle.std.proofs.Common.{◌-◌, ◌<◌, ◌∙◌, arith}
use Rattle.report.proofs.Turns.{page_next}
use Rattle.report.proofs.walk.Goals as goal

pub loop-r-smaller : goal.loop-r-smaller
loop-r-smaller g c =
    let turned = c.in_ok-r in
    let next = page_next _ _ _ _ _ turned.ensures.turns.steps c.loop-r.invariant.4 c.if-r-eq0.false in
    let less : 9999 - turned.r.page.lines < 9999 - c.loop-r.page.lines = omega (arith, next.0, next.1) in
    less

pub loop-r-preserved : goal.loop-r-preserved
loop-r-preserved g c =
    let l = c.loop-r.invariant in
    let turned = c.in_ok-r in
    let next = page_next _ _ _ _ _ turned.ensures.turns.steps l.4 c.if-r-eq0.false in
    (turned.ensures.turns.inside, c.turn.auto.buf ∙ l.1, c.turn.auto.out ∙ l.2, turned.ensures.fits.0, next.1)
