-- What is lent to the step is what is before the program. Assumes nothing.
use Rattle.std.proofs.Common.{refl, arith}
use Rattle.report.proofs.Turns.{turn_whole}
use Rattle.report.proofs.turn.Goals as goal

pub returns-clause-turns : goal.returns-clause-turns
returns-clause-turns g c =
    let a = c.args in
    let s = c.step-s in
    turn_whole a.w a.p a.buf.now a.out.now s.new.out _ c.in_ok-held.held c.hold.new.buf c.in_ok-held.ensures.holds s.result
    s.ensures.steps s.ensures.fits.1 (omega arith) _ refl refl refl refl refl refl
