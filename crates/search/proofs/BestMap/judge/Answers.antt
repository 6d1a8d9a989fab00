use mathlib.Core.Path.{refl}
use borrow.Author.Rules.{rules}
use Rattle.search.proofs.Tries.{lower_stands}
use Rattle.search.proofs.BestMap.judge.Goals as goal

pub returns-then-next-self : goal.returns-then-next-self
returns-then-next-self c = λ s S.
    let a = c.args in
    lower_stands s a.self.now _ a.next a.cells.now a.lines.now S (search rules) (search rules) refl
    c.copy_front.ensures c.copy_front-then-next-self.ensures c.if-next-self.true
