use Rattle.scan.specs.Scan.{fill}
use native.Mathlib.Numerals.{add-one}
use mathlib.Core.Path.{refl}
use Rattle.scan.proofs.Scan.fill_line.Goals as goal

pub loop-a-init : goal.loop-a-init
unfolding fill
loop-a-init c = refl

pub loop-a-preserved : goal.loop-a-preserved
unfolding fill
loop-a-preserved c = rw (add-one, fill, c.place.ensures, ← c.loop-a.invariant) refl
