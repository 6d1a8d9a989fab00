use native.Mathlib.Omega.{arith}
use Rattle.rows.proofs.Laws.{rank_eight}
use Rattle.map_search.proofs.constant.Goals as goal

-- in row 0 too, so that an edit to that row is refused at the answer
pub bounds-rates-from : goal.bounds-rates-from
bounds-rates-from c =
    let a = c.args in
    let zero = rank_eight 0 a.c (omega arith) c.requires.0 in
    omega (arith, c.from.ensures, c.rank_at-rank.ensures, rank_eight a.k a.c c.requires.1 c.requires.0, zero)
