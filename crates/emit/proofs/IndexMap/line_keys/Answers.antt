use Rattle.std.proofs.Common.{◌+◌, ◌≡◌, refl, ◌∙◌, arith, eq-eqb}
use Rattle.emit.proofs.Keys.{rows_inner}
use Rattle.emit.proofs.Lines.{narrower}
use Rattle.emit.proofs.IndexMap.line_keys.Goals as goal

pub fill_keys-requires-2-clause-inner : goal.fill_keys-requires-2-clause-inner
fill_keys-requires-2-clause-inner c =
    let a = c.args in
    let m = a.self.now in
    let i = rw c.if-self.false at (narrower (a.l + 1) a.count (omega (arith, c.requires.l_bound.1)) c.requires.count_bound.1 m.inside) in
    let from = c.from-from.result in
    let k : a.l ≡ 1 → from ≡ 1 = λ e. c.from-from.ensures ∙ rw (eq-eqb a.l 1 e) refl in
    rows_inner m.cells.now m.w m.n a.l a.count from i c.requires.l_bound.0 k
