-- What the functions within the crate ask and answer: the steps of `search_strip`.
use Rattle.std.specs.Prelude.{◌≡◌, List, ℕ, ◌+◌, ◌*◌, ◌≤◌, max, take, drop, Float}
use Rattle.lists.specs.Counted.{part, total}
use Rattle.sizes.specs.declared.Block.{Block}
use Rattle.accept.specs.declared.Palette.{Palette}
use Rattle.search.specs.Search.{Searches}
use Rattle.strip.specs.declared.Places.{Places}
use Rattle.strip.specs.Strip.{cells_at, lines_at}

-- what the first `count` blocks take
abbrev pub places_to : List ℕ → ℕ → Places
places_to sides count = record { cells = total (cells_at sides) count; lines = total (lines_at sides) count }

-- a block's places from `at` on lie within those of a strip
pub record Fits (b : Block) (at : Places) (samples cells lines : ℕ) : Type 0 where
  pub width : b.width ≤ 64
  pub height : b.height ≤ 64
  pub cells_before : at.cells ≤ 262144
  pub lines_before : at.lines ≤ 4096
  pub sampled : at.cells + b.width * b.height ≤ samples
  pub mapped : at.cells + b.width * b.height ≤ cells
  pub lined : at.lines + max b.width b.height ≤ lines

-- nothing changed but `size` places from `at` on
pub record Outside (at size : ℕ) (old new : List ℕ) : Type 0 where
  pub front : take at new ≡ take at old
  pub behind : drop (at + size) new ≡ drop (at + size) old

-- a block whose places begin at `at`
pub record SearchesAt (samples costs : List Float) (b : Block) (at : Places) (map₀ map flags₀ flags : List ℕ) (r : Palette) : Type 0 where
  pub search : let size = b.width * b.height in
      let longer = max b.width b.height in
      Searches (part samples at.cells size) costs b (part map₀ at.cells size) (part map at.cells size)
      (part flags₀ at.lines longer) (part flags at.lines longer) r
  pub cells : Outside at.cells (b.width * b.height) map₀ map
  pub signs : Outside at.lines (max b.width b.height) flags₀ flags
