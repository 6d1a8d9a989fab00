-- Document 01, 'Map': the orientation bit, then each line's flag and the cells that it sends.
use Rattle.std.specs.Prelude.{ℕ, zero, suc, ◌+◌, ◌*◌, ◌-◌, ◌≤◌, ◌<◌, Bool, cond, List, [], ◌∷◌, ◌++◌, eqb, length, get_or}
use Rattle.lists.specs.Counted.{up_to, bit}
use Rattle.counts.specs.Counts.{orient_sent}
use Rattle.context.specs.Map.{cell, row_at, col_at, lines_of, length_of}
use Rattle.context.specs.Order.{Around, by_three, around, rank_of}
use Rattle.literals.specs.Words.{word, bypass}

-- a cell by the rank of its index, under a kind
unfoldable pub ranked_word : ℕ → Around → ℕ → ℕ → ℕ
ranked_word kind a n i = word kind ((n - 2) * 5 + a.ctx) (rank_of a n i)

-- the call for one cell: uniform at (0,0), else by rank
unfoldable pub cell_word : ℕ → (ℕ → ℕ → ℕ → Around) → ℕ → List ℕ → ℕ → ℕ → ℕ → ℕ
cell_word kind three n map s y x =
    let i = cell map s y x in
    cond (eqb (y + x) 0) (word 2 n i) (ranked_word kind (around three map s y x) n i)

-- the call for place a of line l
abbrev pub line_word : ℕ → Bool → List ℕ → ℕ → ℕ → ℕ → ℕ
line_word n t map w l a = cell_word 5 by_three n map w (row_at t l a) (col_at t l a)

-- the context of a line's flag: 3, or the flag before
unfoldable pub row_context : List ℕ → ℕ → ℕ
row_context flags zero = 3
row_context flags (suc l) = get_or flags l 0

-- how many cells a line sends by its flag: all, one, none
unfoldable pub sent_cells : ℕ → ℕ → ℕ
sent_cells zero len = len
sent_cells (suc zero) len = 1
sent_cells (suc (suc f)) len = 0

-- line l, for n colours, orientation t and lines of length len
unfoldable pub line_words : ℕ → Bool → List ℕ → List ℕ → ℕ → ℕ → ℕ → List ℕ
line_words n t flags map w len l =
    word 4 (row_context flags l) (get_or flags l 0)
    ∷ up_to (λ a. line_word n t map w l a ∷ []) (sent_cells (get_or flags l 0) len)

-- the orientation bit, where it is sent
unfoldable pub orient_words : ℕ → ℕ → Bool → List ℕ
orient_words w h t = cond (orient_sent w h) (bypass 1 (bit t) ∷ []) []

unfoldable pub map_words : ℕ → Bool → List ℕ → List ℕ → ℕ → ℕ → List ℕ
map_words n t flags map w h = orient_words w h t ++ up_to (line_words n t flags map w (length_of t w h)) (lines_of t w h)

-- what the emitters require of a map: n from 2 to 8, each cell of the lines inside the map, each index below n
pub record LinesInside (map : List ℕ) (w n : ℕ) (t : Bool) (lines len : ℕ) : Type 0 where
  pub two : 2 ≤ n
  pub eight : n ≤ 8
  pub column : (l a : ℕ) → l < lines → a < len → col_at t l a < w
  pub place : (l a : ℕ) → l < lines → a < len → row_at t l a * w + col_at t l a < length map
  pub below : (i : ℕ) → i < length map → get_or map i 0 < n
