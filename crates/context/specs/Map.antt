-- An index map, row after row, and its lines. Document 01, 'Map': lines are rows, or columns when transposed.
use Rattle.std.specs.Prelude.{ℕ, ◌+◌, ◌*◌, Bool, cond, List, get_or}

-- the index at row y, column x
unfoldable pub cell : List ℕ → ℕ → ℕ → ℕ → ℕ
cell map stride y x = get_or map (y * stride + x) 0

-- row and column of place a of line l, for orientation t; how many lines there are, and how long they are
abbrev pub row_at : Bool → ℕ → ℕ → ℕ
row_at t l a = cond t a l

abbrev pub col_at : Bool → ℕ → ℕ → ℕ
col_at t l a = cond t l a

abbrev pub lines_of : Bool → ℕ → ℕ → ℕ
lines_of t w h = cond t w h

abbrev pub length_of : Bool → ℕ → ℕ → ℕ
length_of t w h = cond t h w

-- the index at place a of line l
unfoldable pub line_cell : Bool → List ℕ → ℕ → ℕ → ℕ → ℕ
line_cell t map w l a = cell map w (row_at t l a) (col_at t l a)
