use mathlib.Core.Path.{◌≡◌}
use Rattle.strip.specs.Steps.{places_to}
use Rattle.strip.proofs.places_of.Given as goal

abbrev pub invariant-loop-pair : goal.invariant-loop-pair
invariant-loop-pair l = l.at ≡ places_to l.sides l.pair-index
