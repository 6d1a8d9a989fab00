-- The block at the front of a text: a palette in the listing program's form, and what its list counts. Document 01's listing
-- program answers for one block; document 02's L1 reports on many.
use Rattle.std.specs.Prelude.{ℕ, ◌*◌, ◌≤◌, cond, List, eqb, length}
use Rattle.literals.specs.Words.{raw_width_of}
use Rattle.accept.specs.Palette.{Palette}
use Rattle.accept.specs.Accepted.{refusal}
use Rattle.listing.specs.Listing.{call_list}
use Rattle.text.specs.Text.{header_at, places_of, text_number, cache_at, palette_at}
use Rattle.blocks.specs.declared.Block.{Block}

-- a refusal counts nothing; `taken` bytes are the block's own, 0 where its end is not known
abbrev pub refused_block : ℕ → ℕ → Block
refused_block number taken = record { number = number; taken = taken; calls = 0; cells = 0; raw = 0 }

-- a palette whose text is in form: calls, cells and raw width, or its refusal
unfoldable pub listed_block : ℕ → ℕ → ℕ → ℕ → List ℕ → Palette → Block
listed_block taken w h bd cache p =
    let number = refusal w h bd (length cache) p in
    let words = call_list w h bd cache p in
    cond (eqb number 0) (record { number = 0; taken = taken; calls = length words; cells = h * w; raw = raw_width_of words })
    (refused_block number taken)

-- the block at the front of a text: where the text cannot be read, or its header is refused, its end is not known
unfoldable pub block_of : List ℕ → Block
block_of s =
    let h = header_at s 0 in
    cond (eqb (text_number s 0) 0)
    (listed_block (places_of h 0).end h.width h.height h.bd (cache_at s 0 h) (palette_at s 0 h))
    (refused_block (text_number s 0) 0)

-- its call list, where it is not refused
unfoldable pub words_of : List ℕ → List ℕ
words_of s = let h = header_at s 0 in call_list h.width h.height h.bd (cache_at s 0 h) (palette_at s 0 h)

-- what no block exceeds; the bound of the raw width is easily had, not the least one
pub record Few (b : Block) : Type 0 where
  pub calls : b.calls ≤ 4234
  pub cells : b.cells ≤ 4096
  pub raw : b.raw ≤ 2618
