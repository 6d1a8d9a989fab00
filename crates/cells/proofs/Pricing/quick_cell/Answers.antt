use mathlib.Core.Path.{sym, ◌∙◌}
use mathlib.Core.Logic.{∥∥₁_elim}
use Rattle.cells.proofs.Quick.{sole_cell}
use Rattle.cells.proofs.Sets.{cell_set}
use Rattle.cells.proofs.Pricing.quick_cell.Goals as goal

pub returns-then-alone : goal.returns-then-alone
returns-then-alone c =
    let a = c.args in
    let p = a.self.now in
    let dists = c.squares-dists.ensures in
    let alone = sym c.alone.ensures ∙ c.if-alone.true in
    c.sole_cell.ensures
    ∙ rw (dists, c.rates-rates.ensures)
    (∥∥₁_elim p.sure (cell_set _ _) (λ sure.
    sole_cell a.x p.colors p.costs.now p.n a.ctx p.lambda p.cap p.few.0 p.few.1 c.requires.1
    c.requires.2 sure.capped c.guess-b.result a.row
    c.if-b-self.true c.requires.0 p.skips sure.skipped (rw dists at alone)))
