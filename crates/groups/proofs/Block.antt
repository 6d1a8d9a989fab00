-- The histogram of a block: its levels ascend, each is seen, a sum is a count times its level, a sum of squares a count times
-- the level's square, and the counts add up to the cells.
use mathlib.Core.Path.{◌≡◌, refl, ◌∙◌}
use mathlib.Core.Bool.{Bool, true, false}
use mathlib.Core.List.{List, map}
use Prim.Native.Nat.{ℕ, suc, ◌-◌, ◌*◌, ◌^◌, ◌≤◌, ◌<◌, zero-le}
use native.Mathlib.Nat.{le_trans, le_of_eq}
use native.Mathlib.Omega.{arith}
use lib.Dec.{ltb}
use lib.Pow.{pow_mono}
use lib.ListN.{length, get_or, length-map}
use lib.Ieee.{Float}
use borrow.Author.Tests.{ltb-true, ltb-false}
use Rattle.lists.proofs.Ascending.{is_ascending, ascending_at}
use Rattle.lists.specs.Counted.{total}
use Rattle.samples.specs.Samples.{samples_ok, level_of}
use Rattle.samples.proofs.Ranges.{level_in}
use Rattle.groups.specs.Histogram.{occurs, per_level, places, levels_of, histogram_of, sum_to, IsHistogram}
use Rattle.groups.proofs.Each.{each_at}
use Rattle.groups.proofs.Levels.{places_length, same_length, none_occurs}
use Rattle.groups.proofs.Kept.{Seen, seen, kept_at, kept_past, kept_times, place_at_is}
use Rattle.groups.proofs.Totals.{sum_same, counts_total, cells_total}

-- ---- the histogram
not_above : (a b : ℕ) → (suc a ≤ b → ⊥) → b ≤ a
not_above a b f = omega arith

-- the cells of a block, with levels up to top
pub record Cells (top : ℕ) (xs : List ℕ) : Type 0 where
  pub few : length xs ≤ 4096
  pub small : top ≤ 4095
  pub below : (i : ℕ) → i < length xs → get_or xs i 0 ≤ top

pub cells_of : (bd : ℕ) (samples : List Float) → bd ≤ 12 → length samples ≤ 4096 → samples_ok bd samples ≡ true
    → Cells (2 ^ bd - 1) (map level_of samples)
cells_of bd samples d f e =
    let p : 2 ^ bd ≤ 4096 = pow_mono d in
    let n = length-map samples level_of in
    record { few = omega arith; small = omega arith; below = (λ i l. level_in bd samples d e i (omega arith)) }

module _ (top : ℕ) (xs : List ℕ) (c : Cells top xs) where
  -- what is kept of each level of the block, and its place
  abbrev kept : (ℕ → ℕ) → List ℕ
  kept f = per_level (occurs xs) 4096 f

  kept_length : (f : ℕ → ℕ) → length (kept f) ≡ length (levels_of xs)
  kept_length f = same_length (occurs xs) f (λ v. v) 4096

  level_seen : (i : ℕ) → i < length (levels_of xs) → Seen (occurs xs) 4096 (get_or (levels_of xs) i 0)
  level_seen i l = each_at (Seen (occurs xs) 4096) (levels_of xs) (seen (occurs xs) 4096).0 i l

  all_cells : total (occurs xs) 4096 ≡ length xs
  all_cells = cells_total xs 4096 (λ i l. omega (arith, c.below i l, c.small))

  -- no level is above the top
  pub level_top : (i : ℕ) → get_or (levels_of xs) i 0 ≤ top
  level_top i = go (ltb i (length (levels_of xs))) refl
    where
      go : (t : Bool) → ltb i (length (levels_of xs)) ≡ t → get_or (levels_of xs) i 0 ≤ top
      go false h = rw (kept_past (occurs xs) (λ v. v) 4096 i (ltb-false i (length (levels_of xs)) h)) zero-le
      go true h =
          not_above top (get_or (levels_of xs) i 0)
          (λ l. (level_seen i (ltb-true i (length (levels_of xs)) h)).1
          (none_occurs xs (suc top) (get_or (levels_of xs) i 0) (λ i k. omega (arith, c.below i k)) l))

  module _ (few : (histogram_of xs).n ≤ 32) where
    placed : (f : ℕ → ℕ) (i : ℕ) → get_or (places (kept f)) i 0 ≡ get_or (kept f) i 0
    unfolding histogram_of
    placed f i = place_at_is (kept f) i (rw (kept_length f) few)

    times : (f g : ℕ → ℕ) → ((v : ℕ) → f v ≡ occurs xs v * g v) → (i : ℕ)
        → get_or (places (kept f)) i 0 ≡ get_or (places (kept (occurs xs))) i 0 * g (get_or (levels_of xs) i 0)
    times f g e i = rw (placed f i, placed (occurs xs) i) (kept_times (occurs xs) f g 4096 i e)

    -- the counts add up to the cells
    pub counts_add_up : sum_to (histogram_of xs).w 32 ≡ length xs
    unfolding histogram_of
    counts_add_up =
        let l : length (kept (occurs xs)) ≤ 32 = rw (kept_length (occurs xs)) few in
        sum_same (places (kept (occurs xs))) (kept (occurs xs)) 32 (placed (occurs xs))
        ∙ counts_total (occurs xs) 4096 32 l ∙ all_cells

    pub histogram_is : IsHistogram (levels_of xs) (histogram_of xs)
    unfolding histogram_of
    histogram_is = record {
      few = few;
      full = (places_length _, places_length _, places_length _);
      top = (λ i. le_trans (level_top i) c.small);
      rising = ascending_at (levels_of xs) (is_ascending (levels_of xs) (seen (occurs xs) 4096).1);
      seen = (λ i l. rw (placed (occurs xs) i, kept_at (occurs xs) (occurs xs) 4096 i l) (some _ (level_seen i l).1));
      sums = times (λ v. occurs xs v * v) (λ v. v) (λ v. refl);
      squares = times (λ v. occurs xs v * (v * v)) (λ v. v * v) (λ v. refl);
      cells = le_trans (le_of_eq counts_add_up) c.few;
    }
      where
        some : (n : ℕ) → (n ≡ 0 → ⊥) → 1 ≤ n
        some n f = omega arith
