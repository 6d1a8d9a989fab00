use Rattle.emit.proofs.Lines.{placed}
use Rattle.emit.proofs.Coder.line_word.Goals as goal

-- first what is told of the word, then what its place needs: a wrong place is refused at the word
pub returns-then-self : goal.returns-then-self
returns-then-self c = rw c.if-self.true c.cell_word.ensures

pub cell_word-requires : goal.cell_word-requires
cell_word-requires c = rw c.if-self.true at (placed c.args.self.now.map c.args.l c.args.a c.requires.0 c.requires.1)

pub cell_word-requires-2 : goal.cell_word-requires-2
cell_word-requires-2 c = rw c.if-self.false at (placed c.args.self.now.map c.args.l c.args.a c.requires.0 c.requires.1)

pub returns : goal.returns
returns c = rw c.if-self.false c.cell_word-2.ensures
