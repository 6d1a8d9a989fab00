use mathlib.Core.Path.{◌≡◌}
use Rattle.reader.specs.Steps.{left}
use Rattle.read_map.proofs.Lines.{LinesInv}
use Rattle.read_map.proofs.Plan.read_lines.Given as goal

abbrev pub invariant-loop-l : goal.invariant-loop-l
invariant-loop-l l =
    LinesInv (left l.initial.words) l.initial.map l.initial.flags l.self.n l.self.scan l.map l.flags (left l.words) l.ctx l.l
    × (l.words.words ≡ l.initial.words.words)
