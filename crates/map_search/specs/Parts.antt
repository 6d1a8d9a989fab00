-- What the crate's functions ask and answer: `build_map` and its steps. Assumes nothing.
use Rattle.std.specs.Prelude.{ℕ, zero, suc, ◌+◌, ◌≤◌, true, cond, ◌≡◌, List, [], ◌∷◌, ◌⊎◌, eqb, T, get_or, Float, Option}
use Rattle.std.specs.Float.{nan, binary32}
use Rattle.std.specs.Float.Ieee.{add, le, fits}
use Rattle.context.specs.Order.{rank_of}
use Rattle.rows.specs.Rows.{around_row}
use Rattle.cells.specs.Cell.{total_of, cheapest}
use Rattle.cells.specs.declared.Cost.{Cost}
use Rattle.map_search.specs.declared.Choice.{Choice}
use Rattle.scan.specs.declared.Scan.{Scan}
use Rattle.map_search.specs.Lines.{Ended, cells_of, copied, constant, constants, total_by}

module _ (samples costs colours : List Float) (n : ℕ) (lambda : Float) (s : Scan) where
  -- the candidate that the code begins with: the copy, or on the first line the constant of index 0, which then meets itself
  abbrev pub first : List ℕ → ℕ → ℕ → Choice
  first m l ctx = cond (eqb l 0) (constant samples costs colours n lambda s m l ctx 0) (copied samples costs colours n lambda s m l ctx)

  -- the cheapest of copy and constants
  unfoldable pub best_of : List ℕ → ℕ → ℕ → Choice
  best_of m l ctx = cheapest (total_by samples costs colours n lambda s) (first m l ctx) (constants samples costs colours n lambda s m l ctx 0 n)

-- the constant lines as the code has them: by the distances from each colour, the first cell's costs by rank, and its row k
abbrev pub constant_by : List Float → List Float → ℕ → Float → ℕ → Choice
constant_by dists rates k row c =
    let cost : Cost = record { dist = get_or dists c nan; rate = add binary32 row (get_or rates (rank_of (around_row k) 8 c) nan) } in
    record { cost = cost; flag = 1; index = c }

unfoldable pub constants_by : List Float → List Float → ℕ → Float → ℕ → ℕ → List Choice
constants_by dists rates k row c zero = []
constants_by dists rates k row c (suc count) = constant_by dists rates k row c ∷ constants_by dists rates k row (c + 1) count

-- cell by cell up to the end of the line, or until the total has reached the limit; row is an f32
pub record Halted (samples costs colours : List Float) (n : ℕ) (lambda : Float) (s : Scan) (m : List ℕ) (l : ℕ) (row limit : Float)
    (r : Cost) (map : List ℕ) : Type 0 where
  pub held : T (fits binary32 row)
  pub cells : ℕ
  pub few : cells ≤ s.len
  pub cost : r ≡ (cells_of samples costs colours n lambda s m l row cells).cost
  pub put : map ≡ (cells_of samples costs colours n lambda s m l row cells).map
  pub why : (cells ≡ s.len) ⊎ (le limit (total_of r lambda) ≡ true)

-- what a search promises: its result, its map and its flags are those of the definition
pub record Built (w : Ended) (r : Option Cost) (map flags : List ℕ) : Type 0 where
  pub result : r ≡ w.result
  pub cells : map ≡ w.map
  pub signs : flags ≡ w.flags
