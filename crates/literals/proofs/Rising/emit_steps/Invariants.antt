use mathlib.Core.Path.{◌≡◌}
use mathlib.Core.Bool.{true}
use mathlib.Core.List.{◌∷◌}
use Prim.Native.Nat.{◌+◌, ◌≤◌}
use lib.ListN.{length, drop}
use Rattle.lists.specs.Written.{written}
use Rattle.literals.specs.Literals.{levels_ok, step_words}
use Rattle.literals.proofs.Rising.emit_steps.Given as goal

-- what is left, written now, gives the whole
abbrev pub invariant-loop-color : goal.invariant-loop-color
invariant-loop-color l =
    record {
      levels : levels_ok l.self.bd (l.from.0 ∷ drop l.color-index l.color-items) ≡ true;
      bits : l.b ≤ l.self.bd;
      place : l.pos + length (step_words l.self.bd l.b l.from.0 (drop l.color-index l.color-items))
          ≡ l.at + length (step_words l.self.bd l.first l.self.first.0 l.color-items);
      words : written l.out l.pos (step_words l.self.bd l.b l.from.0 (drop l.color-index l.color-items))
          ≡ written l.initial.out l.at (step_words l.self.bd l.first l.self.first.0 l.color-items);
    }
