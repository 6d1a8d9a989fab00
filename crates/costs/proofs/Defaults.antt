-- The default table's numbers by place. Assumes nothing.
use mathlib.Core.Path.{◌≡◌, refl}
use mathlib.Core.Bool.{true, cond}
use Prim.Native.Nat.{ℕ, ◌-◌, ◌/◌, ◌%◌, ◌<◌}
use lib.Dec.{ltb, eqb}
use lib.ListN.{length, get_or}
use borrow.Author.Tests.{eqb-true}
use Rattle.lists.specs.Counted.{up_to, all_below}
use Rattle.lists.proofs.Counted.{all_below_at}
use Rattle.tables.specs.Icdf.{size_icdf, row_icdf, size_table, row_table, color_table, color_rows}
use Rattle.costs.specs.Rows.{defaults, rows_ok, row_ok, row_at}

abbrev by_place : ℕ → ℕ
by_place k =
    cond (ltb k 1) 2723
    (cond (ltb k 7) (size_icdf (k - 1))
    (cond (ltb k 15) (row_icdf ((k - 7) / 2) ((k - 7) % 2))
    (get_or color_rows (k - 15) 0)))

all : all_below (λ k. eqb (by_place k) (get_or defaults k 0)) 260 ≡ true
unfolding all_below up_to defaults size_icdf row_icdf size_table row_table color_table color_rows
all = refl

pub by_place_is : (k : ℕ) → k < 260 → by_place k ≡ get_or defaults k 0
by_place_is k h = eqb-true _ _ (all_below_at (λ k. eqb (by_place k) (get_or defaults k 0)) 260 all k h)

pub count : length defaults ≡ 260
unfolding up_to defaults size_table row_table color_table color_rows
count = refl

-- the default table passes the test of an adapted one
pub accepted : rows_ok defaults ≡ true
unfolding rows_ok row_ok row_at all_below up_to defaults size_table row_table color_table color_rows
accepted = refl
