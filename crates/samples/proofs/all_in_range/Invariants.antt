use mathlib.Core.Path.{◌≡◌}
use mathlib.Core.Bool.{◌&&◌}
use lib.ListN.{drop}
use Rattle.samples.specs.Samples.{all_in_range}
use Rattle.samples.proofs.all_in_range.Given as goal

-- what was seen and what is left make up the whole
abbrev pub invariant-loop-x : goal.invariant-loop-x
invariant-loop-x l = l.ok && all_in_range l.top (drop l.x-index l.xs) ≡ all_in_range l.top l.xs
