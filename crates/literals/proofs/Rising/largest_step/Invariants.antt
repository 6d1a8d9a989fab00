use mathlib.Core.Path.{◌≡◌}
use mathlib.Core.Bool.{true}
use mathlib.Core.List.{◌∷◌}
use Prim.Native.Nat.{max}
use lib.ListN.{drop}
use Rattle.literals.specs.Literals.{levels_ok, largest_step}
use Rattle.literals.proofs.Rising.largest_step.Given as goal

-- the largest so far and the largest left give the largest
abbrev pub invariant-loop-color : goal.invariant-loop-color
invariant-loop-color l =
    record {
      levels : levels_ok l.self.bd (l.from.0 ∷ drop l.color-index l.color-items) ≡ true;
      largest : max l.largest (largest_step l.from.0 (drop l.color-index l.color-items)) ≡ largest_step l.self.first.0 l.self.rest.now;
    }
