-- What the functions within the crate ask and answer: the state behind colours and orientation, and the room for the lines.
use Rattle.std.specs.Prelude.{ℕ, ◌*◌, ◌≤◌, ◌≡◌, true, List, Result, Ok, Err, length, replicate}
use Rattle.refusals.specs.declared.Refusal.{Refusal}
use Rattle.refusals.specs.Numbers.{number_of}
use Rattle.scan.specs.Scan.{scan_of}
use Rattle.accept.specs.Palette as rules
use Rattle.accept.specs.Palette.{palette_of}
use Rattle.accept.specs.Accepted.{sides_ok}
use Rattle.accept.specs.Answer.{refused_by}
use Rattle.accept.specs.declared.Palette.{Palette}
use Rattle.reader.specs.Reader.{after, ret}
use Rattle.reader.specs.Steps.{left}
use Rattle.read_colors.specs.Held.{colors_in}
use Rattle.read_map.specs.Map.{read_lines}
use Rattle.reading.specs.Reading.{no_lines, read_palette, Outcome, back, refused, judge}
use Rattle.reading.specs.declared.Head.{Head}

-- the sides are in bounds, and colours and orientation are read: what is left of the list are the lines
pub record Headed (b : Head) : Type 0 where
  pub sides : sides_ok b.width b.height ≡ true
  pub two : 2 ≤ b.held.count
  pub reads : let t = b.transposed in
      read_palette b.width b.height b.bd b.cache.now b.words.now
      ≡ after (read_lines b.held.count (scan_of b.width b.height t) (no_lines b.width b.height t) (left b.reading))
      (λ s. ret (record { colors = colors_in b.held; transposed = t; flags = s.flags; map = s.map }))

-- a place for each cell and each line, and for the longest list
pub record Room (b : Head) (cells lines aside : List ℕ) : Type 0 where
  pub cell_each : length cells ≡ b.width * b.height
  pub line_each : length lines ≡ (scan_of b.width b.height b.transposed).lines
  pub longest : 4234 ≤ length aside

-- no cell and no line is read yet
pub record Blank (b : Head) (cells lines : List ℕ) : Type 0 where
  pub no_cell : cells ≡ replicate (b.width * b.height) 0
  pub no_line : lines ≡ replicate (scan_of b.width b.height b.transposed).lines 0

-- the palette that cells and flags make
abbrev pub palette_in : Head → List ℕ → List ℕ → rules.Palette
palette_in b cells lines = palette_of b.held.colors b.held.count b.transposed cells lines

-- what the head's list is, once the limits are passed
abbrev pub judged : Head → Outcome
judged b = judge b.width b.height b.bd b.cache.now b.words.now (read_palette b.width b.height b.bd b.cache.now b.words.now)

-- what was read, or a refusal
abbrev pub outcome : Head → List ℕ → List ℕ → Result (Unit {0}) Refusal → Outcome
outcome b cells lines (Ok u) = back (palette_in b cells lines)
outcome b cells lines (Err e) = refused (number_of e)

-- the answer of `read`
abbrev pub answer_of : Result Palette Refusal → Palette
answer_of (Ok p) = p
answer_of (Err e) = refused_by (number_of e)
