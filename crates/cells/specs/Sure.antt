-- When one index is so near that it is chosen whatever the context, document 02, L7. Assumes nothing.
use Rattle.std.specs.Prelude.{ℕ, ◌+◌, ◌-◌, ◌*◌, ◌^◌, ◌/◌, ◌%◌, ◌<◌, Bool, true, false, ◌||◌, ◌≡◌, ◌⊎◌, List, eqb, leb, get_or, Float}
use Rattle.std.specs.Float.{nan, binary32}
use Rattle.std.specs.Float.Ieee.{lt, le, of_bits}
use Rattle.context.specs.Order.{rank_of}
use Rattle.rows.specs.Rows.{around_row}
use Rattle.cells.specs.declared.Cost.{Cost}
use Rattle.cells.specs.declared.Cell.{Cell}
use Rattle.lists.specs.Counted.{all_below}
use Rattle.ieee.specs.Bounds.{NotNeg, Within}

-- no cost of a cell among n colours exceeds r; or r is nan
abbrev pub Capped : List Float → ℕ → Float → Type 0
Capped costs n r =
    (r ≡ nan) ⊎ ((le (of_bits binary32 0) r ≡ true) × (all_below (λ k. le (get_or costs (21 + (n - 2) * 40 + k) nan) r) 40 ≡ true))

-- for each b eight places: index i is past n, or b itself
abbrev pub Skips : ℕ → List Bool → Type 0
Skips n skips = (j : ℕ) → j < 64 → get_or skips j false ≡ (leb n (j % 8) || eqb (j % 8) (j / 8))

-- index i is skipped, or farther than top
abbrev pub passed_by : List Float → Float → List Bool → ℕ → ℕ → Bool
passed_by dists top skips at i = get_or skips (at + i) false || lt top (get_or dists i nan)

-- what is made once for a size
pub record Sure (costs : List Float) (n : ℕ) (cap : Float) (skips : List Bool) : Type 0 where
  pub capped : Capped costs n cap
  pub skipped : Skips n skips

-- what the costs and lambda are: not negative, lambda finite
pub record Priced (costs : List Float) (lambda : Float) : Type 0 where
  pub plus : (i : ℕ) → NotNeg (get_or costs i nan)
  pub mild : Within lambda (2 ^ 20)

-- the cell of index b at a row of the table
abbrev pub sole_by : List Float → List Float → ℕ → ℕ → Cell
sole_by dists rates row b =
    let cost : Cost = record { dist = get_or dists b nan; rate = get_or rates (rank_of (around_row row) 8 b) nan } in
    record { index = b; cost = cost }
