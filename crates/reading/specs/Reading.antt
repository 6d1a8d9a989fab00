-- Document 02, L2: a call list read back, and what `read` answers.
use Rattle.std.specs.Prelude.{ℕ, ◌*◌, ◌≡◌, Bool, false, cond, not, ◌&&◌, List, [], ◌∷◌, eqb, length, replicate}
use Rattle.lists.specs.Written.{front}
use Rattle.lists.specs.Same.{same_list}
use Rattle.counts.specs.Counts.{orient_sent}
use Rattle.scan.specs.Scan.{scan_of}
use Rattle.accept.specs.Palette as rules
use Rattle.accept.specs.Accepted.{sides_ok, depth_ok, cache_ok, refusal}
use Rattle.accept.specs.Answer.{rooms_ok, uncounted, refused_by}
use Rattle.accept.specs.declared.Palette.{Palette}
use Rattle.listing.specs.Listing.{call_list}
use Rattle.reader.specs.Reader.{Got, got, fault, Reader, ◌>>=◌, ret, due}
use Rattle.read_colors.specs.Colors.{read_colors, in_eight}
use Rattle.read_map.specs.Map.{Lines, read_lines}

-- the orientation bit, where it is sent; else plain
unfoldable pub read_orient : ℕ → ℕ → Reader Bool
read_orient w h = cond (orient_sent w h) (due 1 1 2 >>= λ b. ret (eqb b 1)) (ret false)

-- before any line is read
abbrev pub no_lines : ℕ → ℕ → Bool → Lines
no_lines w h t = record { flags = replicate (scan_of w h t).lines 0; map = replicate (w * h) 0 }

-- colours, orientation, lines
unfoldable pub read_palette : ℕ → ℕ → ℕ → List ℕ → Reader rules.Palette
read_palette w h bd cache =
    read_colors bd cache
    >>= λ cs. read_orient w h
    >>= λ t. read_lines (length cs) (scan_of w h t) (no_lines w h t)
    >>= λ s. ret (record { colors = cs; transposed = t; flags = s.flags; map = s.map })

-- the listing accepts the palette, and would write that list
unfoldable pub relists : ℕ → ℕ → ℕ → List ℕ → rules.Palette → List ℕ → Bool
relists w h bd cache p ws = eqb (refusal w h bd (length cache) p) 0 && same_list (call_list w h bd cache p) ws

-- the palette read back, or the number of a refusal
pub data Outcome : Type 0 where
  back : rules.Palette → Outcome
  refused : ℕ → Outcome

-- 22: words are left over; 23: the listing would not write this list
unfoldable pub judge : ℕ → ℕ → ℕ → List ℕ → List ℕ → Got rules.Palette → Outcome
judge w h bd cache ws (fault k) = refused k
judge w h bd cache ws (got p (x ∷ xs)) = refused 22
judge w h bd cache ws (got p []) = cond (relists w h bd cache p ws) (back p) (refused 23)

-- 1, 2, 13, 7
unfoldable pub limits : ℕ → ℕ → ℕ → ℕ → ℕ → ℕ → ℕ
limits w h bd cached cells lines =
    cond (not (sides_ok w h)) 1
    (cond (not (depth_ok bd)) 2
    (cond (not (cache_ok cached)) 13
    (cond (not (rooms_ok w h cells lines)) 7 0)))

-- with room for so many cells and lines
unfoldable pub reading : ℕ → ℕ → ℕ → List ℕ → ℕ → ℕ → List ℕ → Outcome
reading w h bd cache cells lines ws =
    let k = limits w h bd (length cache) cells lines in
    cond (eqb k 0) (judge w h bd cache ws (read_palette w h bd cache ws)) (refused k)

-- head and map bits are 0, since the search did not make the palette
abbrev pub answer : Outcome → Palette
answer (back p) = uncounted 0 (length p.colors) (in_eight p.colors) p.transposed
answer (refused k) = refused_by k

-- the lent map and flags afterwards
abbrev pub map_after_read : Outcome → List ℕ → List ℕ
map_after_read (back p) before = front p.map before
map_after_read (refused k) before = before

abbrev pub flags_after_read : Outcome → List ℕ → List ℕ
flags_after_read (back p) before = front p.flags before
flags_after_read (refused k) before = before

-- the answer of `read`, and the lent buffers before and after
pub record Reads (o : Outcome) (cells cellsThen lines linesThen : List ℕ) (r : Palette) : Type 0 where
  pub answered : r ≡ answer o
  pub map : cellsThen ≡ map_after_read o cells
  pub flags : linesThen ≡ flags_after_read o lines
