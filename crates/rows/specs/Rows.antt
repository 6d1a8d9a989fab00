-- Document 02, L7: what three neighbours below 8 answer, row after row in two tables, and the order once more for reading. Assumes nothing.
use Rattle.std.specs.Prelude.{ℕ, zero, suc, ◌+◌, ◌*◌, ◌/◌, ◌%◌, ◌<◌, ◌≡◌, List, [], ◌∷◌, ◌++◌, get_or}
use Rattle.context.specs.Order.{Around, by_three, order_of, rank_of}

-- the row of three neighbours
abbrev pub row_of : ℕ → ℕ → ℕ → ℕ
row_of left top diag = (left * 8 + top) * 8 + diag

-- the context of row k, and the neighbours' indices that come first
abbrev pub around_row : ℕ → Around
around_row k = by_three (k / 64) (k / 8 % 8) (k % 8)

-- its three neighbours are below n
abbrev pub Fits : ℕ → ℕ → Type 0
Fits k n = (k < 512) × (k / 64 < n) × (k / 8 % 8 < n) × (k % 8 < n)

-- the order of n indices, and of all eight
abbrev pub row_order : ℕ → ℕ → List ℕ
row_order k n = order_of (around_row k) n

abbrev pub order_row : ℕ → List ℕ
order_row k = row_order k 8

-- eight times the context, and the rank of index i
abbrev pub code_at : ℕ → ℕ → ℕ
code_at k i = (around_row k).ctx * 8 + rank_of (around_row k) 8 i

abbrev pub code_row : ℕ → List ℕ
code_row k = code_at k 0 ∷ code_at k 1 ∷ code_at k 2 ∷ code_at k 3 ∷ code_at k 4 ∷ code_at k 5 ∷ code_at k 6 ∷ code_at k 7 ∷ []

-- count rows from row k on
unfoldable pub rows_from : (ℕ → List ℕ) → ℕ → ℕ → List ℕ
rows_from f k zero = []
rows_from f k (suc count) = f k ++ rows_from f (k + 1) count

unfoldable pub order_table : List ℕ
order_table = rows_from order_row 0 512

unfoldable pub code_table : List ℕ
code_table = rows_from code_row 0 512

-- The order turned round, for reading: a row is of the neighbour above, k / 64, the diagonal one, k / 8 % 8, and the rank, k % 8, and
-- its eight places are of the neighbour before. An entry is eight times the index, and so the shift to that index's place in a row
-- that is taken as one number; 64 times the place's last two bits keep equal entries apart.
abbrev pub next_at : (ℕ → ℕ → ℕ → ℕ) → ℕ → ℕ → ℕ
next_at row k b = b % 4 * 64 + get_or (order_row (row b (k / 64) (k / 8 % 8))) (k % 8) 0 * 8

abbrev pub next_row : (ℕ → ℕ → ℕ → ℕ) → ℕ → List ℕ
next_row row k =
    let at = next_at row k in
    at 0 ∷ at 1 ∷ at 2 ∷ at 3 ∷ at 4 ∷ at 5 ∷ at 6 ∷ at 7 ∷ []

-- where lines are rows left is before and top above, then where they are columns
unfoldable pub next_table : List ℕ
next_table = rows_from (next_row row_of) 0 512 ++ rows_from (next_row (λ top left diag. row_of left top diag)) 0 512

-- what is lent: both tables
pub record Tables (orders codes : List ℕ) : Type 0 where
  pub order : orders ≡ order_table
  pub code : codes ≡ code_table
