use native.Mathlib.Numerals.{add-one}
use mathlib.Core.Path.{refl}
use Rattle.map_search.specs.Lines.{dist_line}
use Rattle.map_search.proofs.Distances.copy_dist.Goals as goal

pub loop-a-init : goal.loop-a-init
unfolding dist_line
loop-a-init c = refl

pub loop-a-preserved : goal.loop-a-preserved
unfolding dist_line
loop-a-preserved c = rw (add-one, dist_line, c.square-t.ensures, c.from-i.ensures, c.place-p.ensures, c.place-q.ensures, c.loop-a.invariant) refl
