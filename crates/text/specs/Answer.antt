-- Document 01, 'Listing program': the output's bytes for the input's bytes. There is room for every list, so 16 does not occur.
use Rattle.std.specs.Prelude.{ℕ, cond, List, eqb, length}
use Rattle.printing.specs.Printing.{listed, refused}
use Rattle.accept.specs.Palette.{Palette}
use Rattle.accept.specs.Accepted.{refusal}
use Rattle.listing.specs.Listing.{call_list}
use Rattle.text.specs.Text.{header_at, places_of, text_number, cache_at, palette_at}

-- a palette's list, or its refusal
unfoldable pub shown : ℕ → ℕ → ℕ → List ℕ → Palette → List ℕ
shown w h bd cache p =
    let number = refusal w h bd (length cache) p in
    cond (eqb number 0) (listed (call_list w h bd cache p)) (refused number)

-- the text's own number and 17 for text after the last row come ahead of the palette
unfoldable pub answer : List ℕ → List ℕ
answer s =
    let h = header_at s 0 in
    cond (eqb (text_number s 0) 0)
    (cond (eqb (places_of h 0).end (length s)) (shown h.width h.height h.bd (cache_at s 0 h) (palette_at s 0 h)) (refused 17))
    (refused (text_number s 0))
