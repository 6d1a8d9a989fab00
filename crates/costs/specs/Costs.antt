-- Document 02, L5: the number and the 301 costs for an adapted table, or for none.
use Rattle.std.specs.Prelude.{ℕ, ◌+◌, ◌≡◌, cond, not, List, leb, eqb, length, replicate, Float}
use Rattle.std.specs.Float.{binary32}
use Rattle.std.specs.Float.Ieee.{of_bits}
use Rattle.lists.specs.Counted.{part, up_to, each}
use Rattle.costs.specs.declared.Costs.{Costs}
use Rattle.costs.specs.Cost.{cost_of, sixteenths}
use Rattle.costs.specs.Rows.{row_at, defaults, chance_of, rows_ok}

-- the cost of symbol s of a row; unused ones cost 0
unfoldable pub cost_in : List ℕ → ℕ → Float
cost_in row s = cond (leb s (length row)) (sixteenths (cost_of (chance_of row s))) (of_bits binary32 0)

-- the costs of row r: one more than it has places
unfoldable pub row_costs : List ℕ → ℕ → List Float
row_costs table r = let p = row_at r in each (cost_in (part table p.at p.used)) (p.room + 1)

-- mode 2, size 7, rows 4 × 3, colours 7 × 5 × 8
unfoldable pub table_costs : List ℕ → List Float
table_costs table = up_to (row_costs table) 41

-- the adapted table when one is lent, else the default
abbrev pub table_of : List ℕ → List ℕ → List ℕ
table_of adapted default = cond (eqb (length adapted) 0) default adapted

-- 24 for a length other than 0 or 260, then 25
unfoldable pub costs_number : List ℕ → ℕ
costs_number adapted =
    cond (eqb (length adapted) 0) 0 (cond (not (eqb (length adapted) 260)) 24 (cond (not (rows_ok adapted)) 25 0))

-- the 301 costs; zeros after a refusal
unfoldable pub costs_of : List ℕ → List Float
costs_of adapted = cond (eqb (costs_number adapted) 0) (table_costs (table_of adapted defaults)) (replicate 301 (of_bits binary32 0))

-- what `make_costs` answers
pub record MakesCosts (adapted : List ℕ) (r : Costs) : Type 0 where
  pub number : r.number ≡ costs_number adapted
  pub costs : r.costs ≡ costs_of adapted
