-- Demand 3, second part: whatever search finds, the listing accepts, with any cache within limits, and writes whole.
use Rattle.std.specs.Prelude.{ℕ, ◌*◌, ◌≤◌, ◌≡◌, List, Float, length, take}
use Rattle.lists.specs.Written.{front}
use Rattle.context.specs.Map.{lines_of}
use Rattle.accept.specs.Palette.{Palette, palette_of}
use Rattle.literals.specs.Words.{raw_width_of}
use Rattle.listing.specs.Listing.{call_list, Lists}
use Rattle.listing.specs.declared.Listed.{Listed}
use Rattle.sizes.specs.declared.Block.{Block}
use Rattle.search.specs.Search.{Searches}
use Rattle.accept.specs.declared.Palette.{Palette as Answer}

-- what search answered, with the cells and flags that it wrote: the first width × height, and one flag per line
abbrev pub found_palette : ℕ → ℕ → Answer → List ℕ → List ℕ → Palette
found_palette w h r map flags =
    palette_of r.colors r.n r.transposed (take (w * h) map) (take (lines_of r.transposed w h) flags)

-- 0, count and raw width of the whole call list, and that list from the front of the words; behind it they are as before
pub record ListedWhole (w h bd : ℕ) (cache : List ℕ) (p : Palette) (before after : List ℕ) (r : Listed) : Type 0 where
  pub number : r.number ≡ 0
  pub count : r.count ≡ length (call_list w h bd cache p)
  pub width : r.raw_width ≡ raw_width_of (call_list w h bd cache p)
  pub words : after ≡ front (call_list w h bd cache p) before

-- A palette is found when search returns 0; the listing is then handed its colours and orientation, the first
-- width × height map cells and the first flags, one per line. The cache may hold up to 64 entries of any value; the room
-- holds at least the list. Proved in proofs/Listed.antt.
abbrev pub FoundIsListed : Type 0
FoundIsListed =
    (samples costs : List Float) (b : Block) (map₀ map flags₀ flags : List ℕ) (r : Answer)
    → Searches samples costs b map₀ map flags₀ flags r → r.number ≡ 0
    → let p = found_palette b.width b.height r map flags in
    (cache : List ℕ) → length cache ≤ 64
    → (before after : List ℕ) (l : Listed) → Lists b.width b.height b.bd cache p before after l
    → length (call_list b.width b.height b.bd cache p) ≤ length before
    → ListedWhole b.width b.height b.bd cache p before after l
