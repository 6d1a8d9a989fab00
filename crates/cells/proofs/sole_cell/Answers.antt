use native.Mathlib.Omega.{arith}
use Rattle.rows.proofs.Laws.{rank_eight}
use Rattle.cells.proofs.sole_cell.Goals as goal

-- in row 0 too, so that an edit to that row is refused at the answer
pub bounds-rates-from : goal.bounds-rates-from
bounds-rates-from c =
    let zero = rank_eight 0 c.args.b (omega arith) c.requires.1 in
    omega (arith, c.from.ensures, c.rank_at-rank.ensures, rank_eight c.args.row c.args.b c.requires.0 c.requires.1, zero)
