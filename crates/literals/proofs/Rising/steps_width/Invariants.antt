use mathlib.Core.Path.{◌≡◌}
use mathlib.Core.Bool.{true}
use Prim.Native.Nat.{◌+◌, ◌*◌, ◌≤◌}
use lib.ListN.{drop}
use Rattle.literals.specs.Literals.{levels_ok, steps_width}
use Rattle.literals.proofs.Rising.steps_width.Given as goal

abbrev pub invariant-loop-color : goal.invariant-loop-color
invariant-loop-color l =
    record {
      levels : levels_ok l.self.bd (drop l.color-index l.color-items) ≡ true;
      bits : l.b ≤ l.self.bd;
      few : l.total ≤ 12 * l.color-index;
      width : l.total + steps_width l.self.bd l.b (drop l.color-index l.color-items) ≡ steps_width l.self.bd l.first l.color-items;
    }
