-- The constant lines as the code has them are those of the definition. Assumes nothing.
use Prim.Native.Nat.{ℕ, zero, suc, ◌+◌, ◌≤◌, ◌<◌}
use mathlib.Core.Bool.{cond}
use mathlib.Core.Path.{◌≡◌, refl}
use mathlib.Core.List.{List}
use native.Mathlib.Omega.{arith}
use native.Mathlib.Nat.{add-zero}
use lib.Dec.{eqb}
use lib.Ieee.{Float}
use Rattle.near.specs.Near.{Below}
use Rattle.near.proofs.Keys.{key_rank}
use Rattle.cells.specs.Cell.{eight, cheapest, total_of, rates_of}
use Rattle.cells.proofs.Eight.{eight_at}
use Rattle.scan.specs.declared.Scan.{Scan}
use Rattle.scan.specs.Scan.{around_in, key_in}
use Rattle.map_search.specs.declared.Choice.{Choice}
use Rattle.map_search.specs.Lines.{dist_line, row_cost, rates_at, copied_by, constant, constants}
use Rattle.map_search.specs.Parts.{best_of, constant_by, constants_by}
use Rattle.map_search.proofs.Neighbours.{key_cell}

module _ (samples costs colours : List Float) (n : ℕ) (lambda : Float) (s : Scan) (some : 0 < n) (most : n ≤ 8)
    (m : List ℕ) (l ctx : ℕ) (below : Below m n) where
  -- the distances from each colour, the first cell's costs by rank, and the flag's cost
  abbrev dists : List Float
  dists = eight (λ c. dist_line samples colours s l (λ a. c) s.len)

  abbrev rates : List Float
  rates = rates_of costs n (key_in m s l 0).ctx (eqb l 0)

  abbrev by_code : ℕ → Choice
  by_code c = constant_by dists rates (key_in m s l 0).row (row_cost costs ctx 1) c

  rates_same : rates ≡ rates_at samples costs colours n lambda s m l 0
  rates_same = rw ((key_cell m s l 0 n below some most).ctx, add-zero) refl

  constant_same : (c : ℕ) → c < n → by_code c ≡ constant samples costs colours n lambda s m l ctx c
  constant_same c under =
      rw (key_rank (around_in m s l 0) n (key_in m s l 0) (key_cell m s l 0 n below some most) most c under, ← rates_same)
      (rw (eight_at (λ c. dist_line samples colours s l (λ a. c) s.len) c (omega arith)) refl)

  constants_same : (c k : ℕ) → c + k ≤ n
      → constants_by dists rates (key_in m s l 0).row (row_cost costs ctx 1) c k ≡ constants samples costs colours n lambda s m l ctx c k
  unfolding constants_by constants
  constants_same c zero inside = refl
  constants_same c (suc k) inside = rw (constant_same c (omega arith), constants_same (c + 1) k (omega arith)) refl

  pub best_same :
      cheapest (λ (d : Choice). total_of d.cost lambda) (cond (eqb l 0) (by_code 0) (copied_by samples colours s m l (row_cost costs ctx 2)))
      (constants_by dists rates (key_in m s l 0).row (row_cost costs ctx 1) 0 n)
      ≡ best_of samples costs colours n lambda s m l ctx
  unfolding best_of
  best_same = rw (constant_same 0 some, constants_same 0 n (omega arith)) refl
