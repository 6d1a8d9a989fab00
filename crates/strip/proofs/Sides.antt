-- Sides within 1..64, and what number 0 says of a strip. Assumes nothing.
use mathlib.Core.Path.{◌≡◌, refl, ap, ◌∙◌}
use mathlib.Core.Bool.{Bool, true, ◌&&◌}
use mathlib.Core.List.{List, [], ◌∷◌}
use Rattle.std.specs.List.{list_all}
use Rattle.std.specs.Simd.{first_chunks}
use Prim.Native.Nat.{ℕ, zero, suc, ◌+◌, ◌*◌, ◌/◌, ◌%◌, ◌≤◌, ◌<◌, max}
use native.Mathlib.Nat.{mul-le-mul}
use native.Mathlib.Omega.{arith}
use lib.Dec.{eqb, leb}
use lib.ListN.{length, get_or}
use borrow.Author.Tests.{eqb-true, leb-true}
use Rattle.lists.specs.Counted.{within, total, all_in}
use Rattle.lists.proofs.Choice.{held, and_l, and_r}
use Rattle.lists.proofs.Counted.{within_at, all_in_at}
use Rattle.lists.proofs.Parts.{total_more, total_within, total_most}
use Rattle.strip.specs.declared.Places.{Places}
use Rattle.strip.specs.Strip.{blocks_in, block_at, cells_at, lines_at, count_ok, strip_number}
use Rattle.strip.specs.Steps.{places_to, Fits}
use lib.Ieee.{Float}

-- the library's word for it
pub all_is : (f : ℕ → Bool) (xs : List ℕ) → list_all f xs ≡ all_in f xs
unfolding all_in
all_is f [] = refl
all_is f (x ∷ xs) = ap (λ t. f x && t) (all_is f xs)

-- of the pairs, the i-th has the sides at places 2i and 2i + 1
pub pair_sides : (k : ℕ) (sides : List ℕ) (i : ℕ) (d : List ℕ) → i < k → 2 * k ≤ length sides
    → (get_or (get_or (first_chunks 2 k sides) i d) 0 0 ≡ get_or sides (2 * i) 0)
    × (get_or (get_or (first_chunks 2 k sides) i d) 1 0 ≡ get_or sides (2 * i + 1) 0)
pair_sides zero sides i d h l = absurd (omega arith)
pair_sides (suc k) [] i d h l = absurd (omega arith)
pair_sides (suc k) (w ∷ []) i d h l = absurd (omega arith)
pair_sides (suc k) (w ∷ v ∷ rest) zero d h l = (refl, refl)
pair_sides (suc k) (w ∷ v ∷ rest) (suc i) d h l =
    let deeper = pair_sides k rest i d (omega arith) (omega arith) in
    let first : 2 * suc i ≡ suc (suc (2 * i)) = omega arith in
    let second : 2 * suc i + 1 ≡ suc (suc (2 * i + 1)) = omega arith in
    (rw first deeper.0, rw second deeper.1)

-- as the code has it: the pairs that the sides were taken in
pub pair_at : (sides : List ℕ) (pairs : List (List ℕ)) → pairs ≡ first_chunks 2 (blocks_in sides) sides → (i : ℕ) (d : List ℕ)
    → i < blocks_in sides
    → (get_or (get_or pairs i d) 0 0 ≡ get_or sides (2 * i) 0) × (get_or (get_or pairs i d) 1 0 ≡ get_or sides (2 * i + 1) 0)
pair_at sides pairs is i d h = rw is (pair_sides (blocks_in sides) sides i d h (omega arith))

-- a block's sides, its places, and those of the blocks before it
pub record Within (sides : List ℕ) (i : ℕ) : Type 0 where
  pub width : get_or sides (2 * i) 0 ≤ 64
  pub height : get_or sides (2 * i + 1) 0 ≤ 64
  pub cells_before : total (cells_at sides) i ≤ 262144
  pub lines_before : total (lines_at sides) i ≤ 4096

module _ (sides : List ℕ) (all : all_in (within 1 64) sides ≡ true) (whole : count_ok (length sides) ≡ true) where
  pub few : blocks_in sides ≤ 64
  few = (within_at 1 64 (length sides / 2) (and_l (within 1 64 (length sides / 2)) (eqb (length sides % 2) 0) whole)).1

  there_at : (i : ℕ) → i < blocks_in sides → 2 * i + 1 < length sides
  there_at i h = omega arith

  side : (k : ℕ) → k < length sides → get_or sides k 0 ≤ 64
  side k h = (within_at 1 64 _ (all_in_at (within 1 64) sides all k h)).1

  cells_most : (i : ℕ) → i < blocks_in sides → cells_at sides i ≤ 4096
  cells_most i h = mul-le-mul (side (2 * i) (omega (arith, there_at i h))) (side (2 * i + 1) (there_at i h))

  lines_most : (i : ℕ) → i < blocks_in sides → lines_at sides i ≤ 64
  lines_most i h = omega (arith, side (2 * i) (omega (arith, there_at i h)), side (2 * i + 1) (there_at i h))

  pub block_within : (i : ℕ) → i < blocks_in sides → Within sides i
  block_within i h =
      record {
        width = side (2 * i) (omega (arith, there_at i h));
        height = side (2 * i + 1) (there_at i h);
        cells_before = omega (arith, few, total_most (cells_at sides) 4096 i (λ k l. cells_most k (omega arith)));
        lines_before = omega (arith, few, total_most (lines_at sides) 64 i (λ k l. lines_most k (omega arith)));
      }

-- the places with one block more
pub places_more : (sides : List ℕ) (i width height : ℕ) (at next : Places) → at ≡ places_to sides i
    → width ≡ get_or sides (2 * i) 0 → height ≡ get_or sides (2 * i + 1) 0
    → next ≡ record { cells = at.cells + width * height; lines = at.lines + max width height } → next ≡ places_to sides (i + 1)
places_more sides i width height at next a w h n =
    n ∙ rw (a, w, h, total_more (cells_at sides) i, total_more (lines_at sides) i) refl

-- what the blocks ask of sides, samples and rooms
pub record Ready (sides : List ℕ) (samples cells lines : ℕ) : Type 0 where
  pub each : all_in (within 1 64) sides ≡ true
  pub whole : count_ok (length sides) ≡ true
  pub sampled : samples ≡ total (cells_at sides) (blocks_in sides)
  pub mapped : total (cells_at sides) (blocks_in sides) ≤ cells
  pub lined : total (lines_at sides) (blocks_in sides) ≤ lines

module _ (sides : List ℕ) (samples cells lines : ℕ) (zero : strip_number sides samples cells lines ≡ 0) where
  pub ready_of : Ready sides samples cells lines
  unfolding strip_number
  ready_of =
      let cellsTaken = total (cells_at sides) (blocks_in sides) in
      let linesTaken = total (lines_at sides) (blocks_in sides) in
      let count = held (count_ok (length sides)) 18 _ zero in
      let each = held (all_in (within 1 64) sides) 0 _ count.1 in
      let sampled = held (eqb samples cellsTaken) 2 _ each.1 in
      let rooms = held (leb cellsTaken cells && leb linesTaken lines) 6 _ sampled.1 in
      record {
        each = each.0;
        whole = count.0;
        sampled = eqb-true samples cellsTaken sampled.0;
        mapped = leb-true cellsTaken cells (and_l (leb cellsTaken cells) (leb linesTaken lines) rooms.0);
        lined = leb-true linesTaken lines (and_r (leb cellsTaken cells) (leb linesTaken lines) rooms.0);
      }

  -- each block's places lie within the lists
  pub fits_at : (bd : ℕ) (lambda : Float) (i : ℕ) → i < blocks_in sides → Fits (block_at sides bd lambda i) (places_to sides i) samples cells lines
  fits_at bd lambda i h =
      let r = ready_of in
      let w = block_within sides r.each r.whole i h in
      let c = total_within (cells_at sides) i (blocks_in sides) h in
      let l = total_within (lines_at sides) i (blocks_in sides) h in
      record {
        width = w.width;
        height = w.height;
        cells_before = w.cells_before;
        lines_before = w.lines_before;
        sampled = omega (arith, c, r.sampled);
        mapped = omega (arith, c, r.mapped);
        lined = omega (arith, l, r.lined);
      }
