use mathlib.Core.Path.{◌≡◌}
use Prim.Native.Nat.{◌-◌}
use Rattle.reader.specs.Steps.{left}
use Rattle.read_colors.specs.Colors.{read_steps}
use Rattle.read_colors.specs.Held.{colors_in}
use Rattle.read_colors.proofs.Climb.{StepsInv}
use Rattle.read_colors.proofs.read_steps.Given as goal

abbrev pub invariant-loop-held : goal.invariant-loop-held
invariant-loop-held l =
    StepsInv l.n l.bd (read_steps l.bd l.initial.b l.initial.last.0 (l.n - l.initial.held.count) (colors_in l.initial.held) (left l.initial.words))
    l.held (left l.words) l.b l.last.0
    × (l.words.words ≡ l.initial.words.words)

abbrev pub decreases-loop-held : goal.decreases-loop-held
decreases-loop-held l = l.n - l.held.count
