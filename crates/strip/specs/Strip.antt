-- Document 02, L6: a whole strip at once. Sides are width and height pairs: block i has those at places 2i and 2i + 1.
use Rattle.std.specs.Prelude.{◌≡◌, Bool, cond, not, ◌&&◌, List, ◌++◌, ℕ, ◌+◌, ◌*◌, ◌/◌, ◌%◌, ◌≤◌, ◌<◌, max, eqb, leb, length, get_or, drop, Float}
use Rattle.lists.specs.Counted.{within, up_to, total, part_of, all_in}
use Rattle.sizes.specs.declared.Block.{Block}
use Rattle.accept.specs.declared.Palette.{Palette}
use Rattle.accept.specs.Answer.{refused_by}
use Rattle.search.specs.Search.{Searches}
use Rattle.strip.specs.declared.Strip.{Strip}

-- how many blocks there are
abbrev pub blocks_in : List ℕ → ℕ
blocks_in sides = length sides / 2

abbrev pub block_at : List ℕ → ℕ → Float → ℕ → Block
block_at sides bd lambda i = record { width = get_or sides (2 * i) 0; height = get_or sides (2 * i + 1) 0; bd = bd; lambda = lambda }

-- the places that block i takes in samples and map: width × height; and in flags: the longer side
abbrev pub cells_at : List ℕ → ℕ → ℕ
cells_at sides i = get_or sides (2 * i) 0 * get_or sides (2 * i + 1) 0

abbrev pub lines_at : List ℕ → ℕ → ℕ
lines_at sides i = max (get_or sides (2 * i) 0) (get_or sides (2 * i + 1) 0)

-- one to 64 whole pairs, of so many sides
abbrev pub count_ok : ℕ → Bool
count_ok sides = within 1 64 (sides / 2) && eqb (sides % 2) 0

-- 19: no block, more than 64, or half a pair; 1: a side out of 1..64; 3: wrong total samples; 7: short total room; or 0
unfoldable pub strip_number : List ℕ → ℕ → ℕ → ℕ → ℕ
strip_number sides samples cells lines =
    let cellsTaken = total (cells_at sides) (blocks_in sides) in
    let linesTaken = total (lines_at sides) (blocks_in sides) in
    cond (not (count_ok (length sides))) 19
    (cond (not (all_in (within 1 64) sides)) 1
    (cond (not (eqb samples cellsTaken)) 3
    (cond (not (leb cellsTaken cells && leb linesTaken lines)) 7 0)))

module _ (sides : List ℕ) (samples costs : List Float) (bd : ℕ) (lambda : Float) (map₀ map flags₀ flags : List ℕ) where
  -- block i has the answer, and its parts hold the cells and flags, of a separate call with its parts of samples and buffers
  abbrev pub Separate : ℕ → Palette → Type 0
  Separate i r =
      Searches (part_of (cells_at sides) samples i) costs (block_at sides bd lambda i) (part_of (cells_at sides) map₀ i)
      (part_of (cells_at sides) map i) (part_of (lines_at sides) flags₀ i) (part_of (lines_at sides) flags i) r

  -- what stands once the first `count` blocks are searched
  pub record Searched (count : ℕ) (answers : List Palette) : Type 0 where
    pub blocks : (i : ℕ) → i < count → Separate i (get_or answers i (refused_by 0))
    -- the answers past the count are all 0
    pub others : (i : ℕ) → count ≤ i → get_or answers i (refused_by 0) ≡ refused_by 0
    -- the blocks' parts one behind the other, then what was there before
    pub cells : map ≡ up_to (part_of (cells_at sides) map) count ++ drop (total (cells_at sides) count) map₀
    pub signs : flags ≡ up_to (part_of (lines_at sides) flags) count ++ drop (total (lines_at sides) count) flags₀

  -- what `search_strip` answers, and both buffers before and after: on 0 all blocks are searched, else none is
  pub record Strips (r : Strip) : Type 0 where
    pub number : r.number ≡ strip_number sides (length samples) (length map₀) (length flags₀)
    pub searched : Searched (cond (eqb r.number 0) (blocks_in sides) 0) r.answers
