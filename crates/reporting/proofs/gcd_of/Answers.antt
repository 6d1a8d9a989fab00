use Rattle.reporting.proofs.Lowest.{gcd_next, gcd_end}
use native.Mathlib.Nat.{mod-lt}
use native.Mathlib.Omega.{arith}
use mathlib.Core.Path.{refl, sym, ◌∙◌}
use Rattle.reporting.proofs.gcd_of.Goals as goal

pub loop-y-init : goal.loop-y-init
loop-y-init c = refl

pub loop-y-smaller : goal.loop-y-smaller
loop-y-smaller c = let l = c.loop-y in mod-lt l.x {m = l.y} (omega (arith, c.loop-y-test.true))

pub loop-y-preserved : goal.loop-y-preserved
loop-y-preserved c = let l = c.loop-y in sym (gcd_next l.x l.y c.loop-y-test.true) ∙ l.invariant

pub returns : goal.returns
returns c = let l = c.loop-y in sym (gcd_end l.x l.y c.loop-y-test.false) ∙ l.invariant
