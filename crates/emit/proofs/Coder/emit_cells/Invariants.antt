use Rattle.std.proofs.Common.{◌≡◌, ◌+◌, [], ◌∷◌}
use Rattle.lists.specs.Counted.{up_to}
use Rattle.lists.specs.Written.{written}
use Rattle.emit.specs.Lines.{word_in}
use Rattle.emit.proofs.Coder.emit_cells.Given as goal

abbrev pub invariant-loop-a : goal.invariant-loop-a
invariant-loop-a l =
    (l.pos ≡ l.at + l.a) × (l.out ≡ written l.initial.out l.at (up_to (λ a. word_in l.self.map l.l a ∷ []) l.a))
