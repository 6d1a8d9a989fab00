-- The row of a cell in the tables, and its context. Assumes nothing.
use Rattle.std.specs.Prelude.{ℕ, zero, suc, ◌<◌, ◌≡◌, List, get_or}
use Rattle.context.specs.Map.{cell}
use Rattle.context.specs.Order.{Around, by_three, order_of}
use Rattle.rows.specs.Rows.{row_of, row_order, Fits}
use Rattle.near.specs.declared.Key.{Key}

-- one neighbour, as three equal ones but for the context; and three
abbrev pub edge_key : ℕ → Key
edge_key v = record { row = row_of v v v; ctx = 0 }

abbrev pub three_key : ℕ → ℕ → ℕ → Key
three_key left top diag = record { row = row_of left top diag; ctx = (by_three left top diag).ctx }

-- at a cell; at (0,0) as if index 0 stood beside it, which gives the index order
unfoldable pub key_at : List ℕ → ℕ → ℕ → ℕ → Key
key_at m w zero zero = edge_key 0
key_at m w zero (suc x) = edge_key (cell m w zero x)
key_at m w (suc y) zero = edge_key (cell m w y zero)
key_at m w (suc y) (suc x) = three_key (cell m w (suc y) x) (cell m w y (suc x)) (cell m w y x)

-- all of a map's cells are below n
abbrev pub Below : List ℕ → ℕ → Type 0
Below m n = (i : ℕ) → get_or m i 0 < n

-- the row gives the order of what is around a cell, and its context is the cell's
pub record Keyed (a : Around) (n : ℕ) (k : Key) : Type 0 where
  pub fits : Fits k.row n
  pub order : row_order k.row n ≡ order_of a n
  pub ctx : k.ctx ≡ a.ctx
