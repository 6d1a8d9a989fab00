use mathlib.Core.Path.{◌≡◌}
use lib.ListN.{drop}
use Rattle.rows.specs.Rows.{row_order}
use Rattle.cells.specs.declared.Pick.{Pick}
use Rattle.cells.specs.Cell.{cheapest, ranked, chosen}
use Rattle.cells.proofs.pick_by.Given as goal

abbrev pub invariant-loop-q : goal.invariant-loop-q
invariant-loop-q l =
    cheapest (λ (p : Pick). p.total) l.best (ranked l.dists l.rates l.lambda l.q (drop l.q (row_order l.row l.n)))
    ≡ chosen l.dists l.rates l.lambda (row_order l.row l.n)
