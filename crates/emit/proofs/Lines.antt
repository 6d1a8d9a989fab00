-- Lines within a map, the length of a line's words, and the context of the next flag. Assumes nothing.
use Prim.Native.Nat.{ℕ, zero, suc, ◌+◌, ◌*◌, ◌≤◌, ◌<◌}
use mathlib.Core.Path.{◌≡◌, refl}
use mathlib.Core.Bool.{Bool}
use mathlib.Core.List.{List}
use native.Mathlib.Numerals.{add-one}
use native.Mathlib.Omega.{arith}
use lib.ListN.{length, get_or}
use Rattle.lists.proofs.Counted.{length_up_to}
use Rattle.context.specs.Map.{row_at, col_at}
use Rattle.emit.specs.declared.IndexMap.{IndexMap}
use Rattle.emit.specs.Lines.{lines_in, length_in}
use Rattle.emit.specs.Map.{LinesInside, line_word, sent_cells, row_context, line_words}

-- fewer and shorter lines
pub narrower : {map : List ℕ} {w n : ℕ} {t : Bool} {lines len : ℕ} (l k : ℕ) → l ≤ lines → k ≤ len → LinesInside map w n t lines len → LinesInside map w n t l k
narrower l k h g i =
    record {
      two = i.two;
      eight = i.eight;
      column = λ j a p q. i.column j a (omega arith) (omega arith);
      place = λ j a p q. i.place j a (omega arith) (omega arith);
      below = i.below;
    }

-- a cell of the map's lines lies in the map
abbrev pub Placed : IndexMap → ℕ → ℕ → Type 0
Placed m l a =
    (col_at m.transposed l a < m.w) × (row_at m.transposed l a * m.w + col_at m.transposed l a < length m.cells.now)

pub placed : (m : IndexMap) (l a : ℕ) → l < lines_in m → a < length_in m → Placed m l a
placed m l a h g = (m.inside.column l a h g, m.inside.place l a h g)

pub sent_few : (f len : ℕ) → 1 ≤ len → sent_cells f len ≤ len
unfolding sent_cells
sent_few zero len h = omega arith
sent_few (suc zero) len h = h
sent_few (suc (suc f)) len h = omega arith

pub line_length : (n : ℕ) (t : Bool) (flags map : List ℕ) (w len l : ℕ) → length (line_words n t flags map w len l) ≡ 1 + sent_cells (get_or flags l 0) len
unfolding line_words
line_length n t flags map w len l = omega (arith, length_up_to (line_word n t map w l) (sent_cells (get_or flags l 0) len))

pub next_context : (flags : List ℕ) (l : ℕ) → row_context flags (l + 1) ≡ get_or flags l 0
unfolding row_context
next_context flags l = rw add-one refl
