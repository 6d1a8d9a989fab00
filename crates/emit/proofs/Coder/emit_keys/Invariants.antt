use Rattle.emit.specs.Keys.{word_by, Extends}
use Rattle.emit.proofs.Coder.emit_keys.Given as goal

-- The contract, up to the cell at hand. Assumes nothing.
abbrev pub invariant-loop-a : goal.invariant-loop-a
invariant-loop-a l = Extends (word_by l.self.codes.now.table.now l.self.words.now l.keys) l.from l.a l.at l.initial.out l.out
