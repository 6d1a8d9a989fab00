-- The colours' rows one behind the other, by place. Assumes nothing.
use mathlib.Core.Path.{◌≡◌, refl}
use mathlib.Core.Bool.{true}
use mathlib.Core.List.{[]}
use Prim.Native.Nat.{ℕ, ◌/◌, ◌%◌, ◌<◌}
use lib.Dec.{eqb}
use lib.ListN.{length, get_or}
use borrow.Author.Tests.{eqb-true}
use Rattle.lists.specs.Counted.{up_to, all_below}
use Rattle.lists.proofs.Counted.{all_below_at}
use Rattle.tables.specs.Icdf.{color_table, color_rows}

abbrev pub place : ℕ → ℕ
place k = get_or (get_or (get_or color_table (k / 35) []) (k / 7 % 5) []) (k % 7) 0

all : all_below (λ k. eqb (place k) (get_or color_rows k 0)) 245 ≡ true
unfolding all_below up_to color_table color_rows
all = refl

pub by_place_is : (k : ℕ) → k < 245 → place k ≡ get_or color_rows k 0
by_place_is k h = eqb-true _ _ (all_below_at (λ k. eqb (place k) (get_or color_rows k 0)) 245 all k h)

pub count : length color_rows ≡ 245
unfolding up_to color_table color_rows
count = refl
