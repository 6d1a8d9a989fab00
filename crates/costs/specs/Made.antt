-- Document 02, L5: what holds of the costs that are made. Proved in proofs/Placed.antt, proofs/Chances.antt and proofs/Bounded.antt.
use Rattle.std.specs.Prelude.{ℕ, ◌+◌, ◌-◌, ◌*◌, ◌≤◌, ◌<◌, ◌≡◌, true, List, get_or, Float}
use Rattle.std.specs.Float.{nan}
use Rattle.std.specs.Float.Ieee.Positive.{num, den}
use Rattle.lists.specs.Counted.{part, total}
use Rattle.samples.specs.Samples.{in_range, all_in_range, costs_ok}
use Rattle.costs.specs.Cost.{cost_of, Largest, sixteenths}
use Rattle.costs.specs.Rows.{row_at, chance_of, defaults}
use Rattle.costs.specs.Costs.{cost_in, table_of, table_costs, costs_number, costs_of}

-- Each cost stands at document 01's place: mode 2, size 7, row 4 × 3, colour 7 × 5 × 8.
pub record Placed (table : List ℕ) (costs : List Float) : Type 0 where
  pub mode : (s : ℕ) → s < 2 → get_or costs s nan ≡ cost_in (part table 0 1) s
  pub size : (n : ℕ) → 2 ≤ n → n ≤ 8 → get_or costs (2 + (n - 2)) nan ≡ cost_in (part table 1 6) (n - 2)
  pub row : (c s : ℕ) → c < 4 → s < 3 → get_or costs (9 + c * 3 + s) nan ≡ cost_in (part table (7 + c * 2) 2) s
  pub colour : (n c s : ℕ) → 2 ≤ n → n ≤ 8 → c < 5 → s < 8
      → get_or costs (21 + ((n - 2) * 5 + c) * 8 + s) nan ≡ cost_in (part table (15 + ((n - 2) * 5 + c) * 7) (n - 1)) s

abbrev pub StandsInOrder : Type 0
StandsInOrder = (table : List ℕ) → Placed table (table_costs table)

-- Of an accepted table, and of the default one, each used symbol s of each row has a probability p of at least 1, and its cost is c / 16 with c the
-- largest whole number where 2^c · p^16 ≤ 2^240. (Row 0 is the mode's, 1 the size's, 2 + c that of line context c, 6 + (n - 2) · 5 + c that of n colours
-- and context c.)
pub record Costed (row : List ℕ) (s : ℕ) : Type 0 where
  pub least : 1 ≤ chance_of row s
  pub most : chance_of row s ≤ 32768
  pub largest : Largest (chance_of row s) (cost_of (chance_of row s))
  pub cost : cost_in row s ≡ sixteenths (cost_of (chance_of row s))

abbrev pub UsedIsLargest : Type 0
UsedIsLargest =
    (adapted : List ℕ) → costs_number adapted ≡ 0
    → (r s : ℕ) → r < 41 → s ≤ (row_at r).used → Costed (part (table_of adapted defaults) (row_at r).at (row_at r).used) s

-- Of such a table the probabilities of a row's symbols, one more than its used numbers, add up to 32,768.
abbrev pub SharesAddUp : Type 0
SharesAddUp =
    (adapted : List ℕ) → costs_number adapted ≡ 0
    → (r : ℕ) → r < 41 → total (chance_of (part (table_of adapted defaults) (row_at r).at (row_at r).used)) ((row_at r).used + 1) ≡ 32768

-- the f32 is within 0..15 and in size c / 16, with no rounding
abbrev pub SixteenthsExact : Type 0
SixteenthsExact = (c : ℕ) → c ≤ 240 → (in_range 15 (sixteenths c) ≡ true) × (16 * num (sixteenths c) ≡ c * den (sixteenths c))

-- Whatever is lent, every cost lies within 0..15, and the costs pass test 5 of the search.
pub record Bounded (costs : List Float) : Type 0 where
  pub range : all_in_range 15 costs ≡ true
  pub passes : costs_ok costs ≡ true

abbrev pub AlwaysBounded : Type 0
AlwaysBounded = (adapted : List ℕ) → Bounded (costs_of adapted)
