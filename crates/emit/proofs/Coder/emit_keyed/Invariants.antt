use Rattle.std.proofs.Common.{◌≤◌, ◌-◌, ◌≡◌, length}
use Rattle.emit.specs.Keys.{word_by, Extends}
use Rattle.emit.proofs.Coder.emit_keyed.Given as goal

-- Behind the first word, those by key of the cells before the one at hand. Assumes nothing.
abbrev pub invariant-loop-a : goal.invariant-loop-a
invariant-loop-a l =
    (1 ≤ l.a) × (l.a ≤ l.count) × (length l.out ≡ length l.initial.out)
    × (Extends (word_by l.self.codes.now.table.now l.self.words.now l.keys) 1 l.a l.at l.initial.out l.out)

abbrev pub decreases-loop-a : goal.decreases-loop-a
decreases-loop-a l = l.count - l.a
