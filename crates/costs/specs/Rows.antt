-- Document 02, L5: the rows of a table of 260 numbers, the default table, and which tables are accepted.
use Rattle.std.specs.Prelude.{ℕ, ◌+◌, ◌-◌, ◌*◌, ◌/◌, Bool, cond, ◌&&◌, List, [], ◌∷◌, ◌++◌, ltb, leb, eqb, length, get_or}
use Rattle.lists.specs.Counted.{part, up_to, all_below}
use Rattle.tables.specs.Icdf.{size_table, row_table, color_rows}
use Rattle.costs.specs.declared.Row.{Row}

abbrev pub row : ℕ → ℕ → ℕ → Row
row at used room = record { at = at; used = used; room = room }

-- The 41 rows one behind the other: mode 1, size 6, rows 4 × 2, colours 7 × 5 × 7. Row r starts at `at` and has `room` places, of
-- which the first `used` are used.
unfoldable pub row_at : ℕ → Row
row_at r =
    cond (ltb r 1) (row 0 1 1)
    (cond (ltb r 2) (row 1 6 6)
    (cond (ltb r 6) (row (7 + (r - 2) * 2) 2 2)
    (row (15 + (r - 6) * 7) ((r - 6) / 5 + 1) 7)))

-- default rows: mode 2723, then the source's three tables
unfoldable pub defaults : List ℕ
defaults = 2723 ∷ (size_table ++ (up_to (λ c. get_or row_table c []) 4 ++ color_rows))

-- what stands before symbol s of a row: 32,768 before the first
abbrev pub before : List ℕ → ℕ → ℕ
before row s = cond (eqb s 0) 32768 (get_or row (s - 1) 0)

-- the probability of symbol s: the difference of neighbours, 0 standing after the row
abbrev pub chance_of : List ℕ → ℕ → ℕ
chance_of row s = before row s - get_or row s 0

-- used numbers fall strictly from at most 32,767 to at least 1, unused ones are 0
abbrev pub number_ok : ℕ → List ℕ → ℕ → Bool
number_ok used row s =
    let x = get_or row s 0 in
    cond (ltb s used) (leb 1 x && ltb x (before row s)) (eqb x 0)

unfoldable pub row_ok : ℕ → List ℕ → Bool
row_ok used row = all_below (number_ok used row) (length row)

abbrev pub table_row_ok : List ℕ → ℕ → Bool
table_row_ok table r = let p = row_at r in row_ok p.used (part table p.at p.room)

-- number 25 where this is false
unfoldable pub rows_ok : List ℕ → Bool
rows_ok table = all_below (table_row_ok table) 41
