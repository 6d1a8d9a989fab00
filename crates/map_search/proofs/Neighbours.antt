-- The row of a cell of a line, where the map's indices are below n. Assumes nothing.
use Prim.Native.Nat.{ℕ, ◌+◌, ◌*◌, ◌≤◌, ◌<◌}
use mathlib.Core.Bool.{Bool, true, false}
use mathlib.Core.Path.{◌≡◌, refl}
use mathlib.Core.List.{List}
use native.Mathlib.Omega.{arith}
use native.Mathlib.Nat.{mul-le-mul_right}
use lib.ListN.{length}
use Rattle.context.specs.Map.{row_at, col_at}
use Rattle.context.specs.Order.{order_of}
use Rattle.context.proofs.Around.{around_ctx}
use Rattle.rows.specs.Rows.{around_row}
use Rattle.rows.proofs.Laws.{row_ok_holds, row_length}
use Rattle.near.specs.declared.Key.{Key}
use Rattle.near.specs.Near.{edge_key, key_at, Below, Keyed}
use Rattle.near.proofs.Keys.{keyed}
use Rattle.cells.proofs.Cheapest.{All}
use Rattle.cells.proofs.Order.{order_under, order_few}
use Rattle.scan.specs.declared.Scan.{Scan}
use Rattle.scan.specs.Scan.{around_in, key_in}

module _ (m : List ℕ) (s : Scan) (l a : ℕ) where
  pub context_small : (around_in m s l a).ctx < 5
  context_small = around_ctx m s.w (row_at s.transposed l a) (col_at s.transposed l a)

  module _ (n : ℕ) (below : Below m n) (some : 0 < n) (most : n ≤ 8) where
    -- the row gives the cell's order, and its context is the cell's
    pub key_cell : Keyed (around_in m s l a) n (key_in m s l a)
    key_cell = keyed m s.w (row_at s.transposed l a) (col_at s.transposed l a) n below some most

    pub order_in : All (λ i. i < n) (order_of (around_in m s l a) n) × (length (order_of (around_in m s l a) n) ≤ 8)
        × (0 < length (order_of (around_in m s l a) n))
    order_in =
        let k = (key_in m s l a).row in
        let ok = row_ok_holds k n key_cell.fits in
        rw (← key_cell.order)
        (order_under (around_row k) n ok, order_few (around_row k) n ok most, omega (arith, row_length k n key_cell.fits most))

-- what a call that told the row k of a cell may rest on
pub told : (m : List ℕ) (s : Scan) (l a n : ℕ) (k : Key) → k ≡ key_in m s l a → Below m n → (2 ≤ n) × (n ≤ 8)
    → Keyed (around_in m s l a) n k × (k.ctx < 5)
told m s l a n k e below few = (
  rw e (key_cell m s l a n below (omega (arith, few)) few.1),
  rw (e, (key_cell m s l a n below (omega (arith, few)) few.1).ctx) (context_small m s l a),
)

-- where the first cell of a line is inside, those of the lines before it are
pub first_inside : (t : Bool) (w size k l : ℕ) → row_at t l 0 * w + col_at t l 0 < size → k ≤ l → row_at t k 0 * w + col_at t k 0 < size
first_inside true w size k l inside up = omega arith
first_inside false w size k l inside up = omega (arith, mul-le-mul_right w up)

-- in the first line nothing is asked: index 0 comes first, which is the index order
pub first_line_holds : (m : List ℕ) (s : Scan) (l : ℕ) → l ≡ 0 → edge_key 0 ≡ key_in m s l 0
unfolding key_at
first_line_holds m s l e = rw e (go s.transposed)
  where
    go : (t : Bool) → edge_key 0 ≡ key_at m s.w (row_at t 0 0) (col_at t 0 0)
    go true = refl
    go false = refl
