-- Every candidate of a line has a finite cost: distance within 2^32, rate within 2^12. Assumes nothing.
use Prim.Native.Nat.{ℕ, zero, suc, ◌+◌, ◌*◌, ◌-◌, ◌^◌, ◌≤◌, ◌<◌}
use mathlib.Core.Bool.{Bool, true, false, cond}
use mathlib.Core.List.{List, [], ◌∷◌, ◌++◌}
use native.Mathlib.Omega.{arith}
use native.Mathlib.Nat.{le_trans, mul-le-mul_right}
use lib.Dec.{eqb, lit≤}
use lib.ListN.{get_or}
use lib.Ieee.{Float, nan, binary32, add}
use lib.Ieee.Back.{round_whole}
use Rattle.ieee.specs.Bounds.{Within}
use Rattle.ieee.proofs.Bounds.{within_mono, add_within}
use Rattle.context.specs.Order.{rank_of}
use Rattle.near.specs.Near.{Below}
use Rattle.near.proofs.Keys.{key_rank_below}
use Rattle.cells.specs.Cell.{total_of}
use Rattle.cells.proofs.Cheapest.{first_cheapest_holds, All, all_append}
use Rattle.scan.specs.declared.Scan.{Scan}
use Rattle.map_search.specs.declared.Choice.{Choice}
use Rattle.scan.specs.Scan.{place_at, cell_in, around_in, key_in}
use Rattle.map_search.specs.Lines.{dist_line, row_cost, rates_at, copied, constant, constants, own, candidates, line_of}
use Rattle.map_search.proofs.Neighbours.{key_cell}
use Rattle.map_search.proofs.CellBounds.{InRange, row_within, cell_rates_within, cells_within, dist_within}

abbrev pub Bounded : Choice → Type 0
Bounded c = Within c.cost.dist (2 ^ 32) × Within c.cost.rate (2 ^ 12)

module _ (samples costs colours : List Float) (n : ℕ) (lambda : Float) (s : Scan) (known : InRange samples costs colours n s)
    (m : List ℕ) (l ctx : ℕ) (below : Below m n) (on : l < s.lines) (context : ctx ≤ 3) where
  abbrev copy_line : Choice
  copy_line = copied samples costs colours n lambda s m l ctx

  abbrev all_from : ℕ → ℕ → List Choice
  all_from c k = constants samples costs colours n lambda s m l ctx c k

  abbrev own_line : Choice
  own_line = own samples costs colours n lambda s m l ctx

  -- a line has at most 64 cells
  line_dist : (x : Float) → Within x (s.len * 2 ^ 26) → Within x (2 ^ 32)
  line_dist x w = within_mono x (s.len * 2 ^ 26) (2 ^ 32) (le_trans (mul-le-mul_right (2 ^ 26) known.sound.short) (lit≤ tt)) w

  line_rate : (x : Float) → Within x (suc s.len * 2 ^ 5) → Within x (2 ^ 12)
  line_rate x w =
      let short : suc s.len ≤ 65 = omega (arith, known.sound.short) in
      within_mono x (suc s.len * 2 ^ 5) (2 ^ 12) (le_trans (mul-le-mul_right (2 ^ 5) short) (lit≤ tt)) w

  own_bounded : Bounded own_line
  own_bounded =
      let w = cells_within samples costs colours n lambda s known m l (row_cost costs ctx 0) s.len below on (omega arith)
      (row_within samples costs colours n lambda s known ctx 0 context (omega arith)) in
      (line_dist own_line.cost.dist w.0, line_rate own_line.cost.rate w.1)

  copied_bounded : Bounded copy_line
  copied_bounded = (
    line_dist copy_line.cost.dist
        (dist_within samples costs colours n lambda s known l (λ a. cell_in m s (l - 1) a) s.len on (λ a. below (place_at s (l - 1) a)) (omega arith)),
    within_mono (row_cost costs ctx 2) 32 (2 ^ 12) (lit≤ tt) (row_within samples costs colours n lambda s known ctx 2 context (omega arith)),
  )

  -- the rate at the first cell
  abbrev first_rate : ℕ → Float
  first_rate c = get_or (rates_at samples costs colours n lambda s m l 0) (rank_of (around_in m s l 0) n c) nan

  first_rate_within : (c : ℕ) → c < n → Within (first_rate c) 32
  first_rate_within c under =
      let some : 0 < n = omega (arith, known.two) in
      let key = key_cell m s l 0 n below some known.most in
      let small = key_rank_below (around_in m s l 0) n (key_in m s l 0) key known.most c under in
      cell_rates_within samples costs colours n lambda s known m l below on 0 (rank_of (around_in m s l 0) n c) (omega (arith, small, known.most))

  constant_bounded : (c : ℕ) → c < n → Bounded (constant samples costs colours n lambda s m l ctx c)
  constant_bounded c under =
      let row = row_within samples costs colours n lambda s known ctx 1 context (omega arith) in
      let sum = add_within binary32 (row_cost costs ctx 1) (first_rate c) 32 32 row (first_rate_within c under) (round_whole binary32 false 64 (lit≤ tt)) in (
        line_dist (dist_line samples colours s l (λ a. c) s.len)
            (dist_within samples costs colours n lambda s known l (λ a. c) s.len on (λ a. under) (omega arith)),
        within_mono (add binary32 (row_cost costs ctx 1) (first_rate c)) 64 (2 ^ 12) (lit≤ tt) sum,
      )

  constants_bounded : (c k : ℕ) → c + k ≤ n → All Bounded (all_from c k)
  unfolding constants
  constants_bounded c zero inside = tt
  constants_bounded c (suc k) inside = (constant_bounded c (omega arith), constants_bounded (c + 1) k (omega arith))

  pub candidates_bounded : All Bounded (candidates samples costs colours n lambda s m l ctx)
  unfolding candidates
  candidates_bounded =
      all_append Bounded (cond (eqb l 0) [] (copy_line ∷ [])) (all_from 0 n ++ (own_line ∷ [])) (by_test (eqb l 0))
      (all_append Bounded (all_from 0 n) (own_line ∷ []) (constants_bounded 0 n (omega arith)) (own_bounded, tt))
    where
      by_test : (t : Bool) → All Bounded (cond t [] (copy_line ∷ []))
      by_test true = tt
      by_test false = (copied_bounded, tt)

  pub line_bounded : Bounded (line_of samples costs colours n lambda s m l ctx)
  unfolding line_of
  line_bounded =
      first_cheapest_holds Bounded (λ (c : Choice). total_of c.cost lambda) own_line (candidates samples costs colours n lambda s m l ctx)
      own_bounded candidates_bounded
