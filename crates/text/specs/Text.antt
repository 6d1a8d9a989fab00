-- Document 01, 'Listing program', the input: a palette's text at a place of a text. The header says where each line stands.
use Rattle.std.specs.Prelude.{ℕ, ◌+◌, ◌*◌, ◌≤◌, Bool, cond, not, ◌&&◌, List, eqb, leb}
use Rattle.lists.specs.Counted.{within}
use Rattle.fields.specs.Fields.{field_at, number_of, is_line, line_numbers, are_rows, row_numbers}
use Rattle.context.specs.Map.{lines_of}
use Rattle.accept.specs.Palette.{Palette}
use Rattle.accept.specs.Accepted.{sides_ok, depth_ok, orient_ok, cache_ok}
use Rattle.text.specs.declared.Header.{Header}
use Rattle.text.specs.declared.Places.{Places}

-- what eight columns hold at most
abbrev pub most : ℕ
most = 99999999

abbrev pub number_at : List ℕ → ℕ → ℕ
number_at s at = number_of (field_at s at)

unfoldable pub header_at : List ℕ → ℕ → Header
header_at s at =
    record {
      width = number_at s at;
      height = number_at s (at + 8);
      n = number_at s (at + 16);
      bd = number_at s (at + 24);
      transposed = eqb (number_at s (at + 32)) 1;
      cached = number_at s (at + 40);
    }

-- the first of 1, 2, 11 (its n), 12 and 13 that applies, or 0
unfoldable pub header_fault : Header → ℕ
header_fault h =
    cond (not (sides_ok h.width h.height)) 1
    (cond (not (depth_ok h.bd)) 2
    (cond (not (within 2 8 h.n)) 11
    (cond (not (orient_ok h.width h.height h.transposed)) 12
    (cond (not (cache_ok h.cached)) 13 0))))

-- what a header without a fault holds at most
pub record Small (h : Header) : Type 0 where
  pub width : h.width ≤ 64
  pub height : h.height ≤ 64
  pub colors : h.n ≤ 8
  pub cached : h.cached ≤ 64

abbrev pub lines_in : Header → ℕ
lines_in h = lines_of h.transposed h.width h.height

-- where the lines after the header stand, and where the palette ends: k fields and a newline are 8k + 1 bytes
unfoldable pub places_of : Header → ℕ → Places
places_of h at =
    let colors = at + 49 in
    let cache = colors + (8 * h.n + 1) in
    let flags = cache + (8 * h.cached + 1) in
    let rows = flags + (8 * lines_in h + 1) in
    record { colors = colors; cache = cache; flags = flags; rows = rows; end = rows + h.height * (8 * h.width + 1) }

-- those lines are in form; no cache entry is above 65,535
unfoldable pub is_body : List ℕ → ℕ → Header → Bool
is_body s at h =
    let p = places_of h at in
    is_line most s p.colors h.n && is_line 65535 s p.cache h.cached
    && is_line most s p.flags (lines_in h) && are_rows most s p.rows h.width h.height

-- 17 for a header not in form or a transposed field other than 0 or 1, the header's fault, 17 for a body not in form, or 0
unfoldable pub text_number : List ℕ → ℕ → ℕ
text_number s at =
    let h = header_at s at in
    cond (not (is_line most s at 6 && leb (number_at s (at + 32)) 1)) 17
    (cond (eqb (header_fault h) 0) (cond (not (is_body s at h)) 17 0) (header_fault h))

-- what is read after the header: the cache and the palette
unfoldable pub cache_at : List ℕ → ℕ → Header → List ℕ
cache_at s at h = line_numbers s (places_of h at).cache h.cached

unfoldable pub palette_at : List ℕ → ℕ → Header → Palette
palette_at s at h =
    let p = places_of h at in
    record {
      colors = line_numbers s p.colors h.n;
      transposed = h.transposed;
      flags = line_numbers s p.flags (lines_in h);
      map = row_numbers s p.rows h.width h.height;
    }
