use native.Mathlib.Omega.{arith}
use Prim.Native.Nat.{ℕ, ◌<◌}
use lib.ListN.{get_or}
use Rattle.rows.specs.Rows.{around_row, order_row}
use Rattle.rows.proofs.Laws.{row_ok_holds, eight_fits}
use Rattle.context.proofs.Order.{order_below}
use Rattle.cells.proofs.candidate.Goals as goal

-- in row 0 too, so that an edit to that row is refused at the answer
pub bounds-dists-index : goal.bounds-dists-index
bounds-dists-index c =
    let a = c.args in
    let low : (k : ℕ) → k < 512 → get_or (order_row k) a.q 0 < 8 =
    λ k h. order_below (around_row k) 8 (row_ok_holds k 8 (eight_fits k h)) a.q c.requires.1 in
    omega (arith, c.from-index.ensures, c.index_at-found.ensures, low a.row c.requires.0, low 0 (omega arith))
