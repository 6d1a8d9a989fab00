use mathlib.Core.Path.{◌≡◌}
use Rattle.reader.specs.Steps.{left}
use Rattle.read_map.proofs.Lines.{CellsInv}
use Rattle.read_map.proofs.Plan.read_cells.Given as goal

abbrev pub invariant-loop-a : goal.invariant-loop-a
invariant-loop-a l =
    CellsInv (left l.initial.words) l.initial.map l.self.n l.self.scan l.l l.map (left l.words) l.a
    × (l.words.words ≡ l.initial.words.words)
