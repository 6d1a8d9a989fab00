-- With samples and colours within 0..4095 and costs within 0..32 the cost of each cell is finite, and so is that of a line. Assumes nothing.
use Prim.Native.Nat.{ℕ, zero, suc, ◌+◌, ◌*◌, ◌-◌, ◌^◌, ◌≤◌, ◌<◌, zero-le}
use mathlib.Core.Bool.{Bool, true, false}
use mathlib.Core.Path.{refl}
use mathlib.Core.Logic.{inl}
use mathlib.Core.List.{List}
use native.Mathlib.Omega.{arith}
use lib.Dec.{eqb, lit≤}
use lib.IntN.{pos}
use lib.ListN.{get_or}
use lib.Ieee.{Float, nan, binary32, of_bits, of_int}
use Rattle.ieee.specs.Bounds.{Within}
use Rattle.ieee.proofs.Bounds.{nat_within}
use Rattle.counts.specs.Counts.{uniform_bits}
use Rattle.context.specs.Order.{order_of}
use Rattle.near.specs.Near.{Below}
use Rattle.cells.specs.declared.Cell.{Cell}
use Rattle.cells.specs.Cell.{square, squares_of, rates_of}
use Rattle.counts.proofs.Uniform.{uniform_any}
use Rattle.cells.proofs.Eight.{eight_at}
use Rattle.cells.proofs.Ranked.{chosen_in}
use Rattle.scan.specs.declared.Scan.{Scan}
use Rattle.scan.specs.Scan.{place_at, around_in, Sound}
use Rattle.map_search.specs.Lines.{Cells, dist_line, row_cost, rates_at, cell_at, cells_of}
use Rattle.map_search.proofs.Sums.{more_within, square_bound}
use Rattle.map_search.proofs.Neighbours.{context_small, order_in}
use Rattle.map_search.proofs.LineCells.{cells_below}

-- what is known of the numbers of a search
pub record InRange (samples costs colours : List Float) (n : ℕ) (s : Scan) : Type 0 where
  pub cells : ℕ
  pub sound : Sound s cells
  pub two : 2 ≤ n
  pub most : n ≤ 8
  pub sample : (i : ℕ) → i < cells → Within (get_or samples i nan) 4095
  pub colour : (i : ℕ) → i < n → Within (get_or colours i nan) 4095
  pub cost : (i : ℕ) → i < 301 → Within (get_or costs i nan) 32

module _ (samples costs colours : List Float) (n : ℕ) (lambda : Float) (s : Scan) (known : InRange samples costs colours n s) where
  -- ---- one rate, one square
  pub row_within : (ctx flag : ℕ) → ctx ≤ 3 → flag ≤ 2 → Within (row_cost costs ctx flag) 32
  row_within ctx flag a b = known.cost (9 + ctx * 3 + flag) (omega arith)

  rates_within : (ctx rank : ℕ) (first : Bool) → ctx < 5 → rank < 8 → Within (get_or (rates_of costs n ctx first) rank nan) 32
  unfolding rates_of
  rates_within ctx rank true a b =
      rw (eight_at (λ k. of_int binary32 (pos (uniform_bits k n))) rank b)
      (nat_within binary32 (uniform_bits rank n) 32 (uniform_any rank n 32 (omega (arith, known.most))) (lit≤ tt))
  rates_within ctx rank false a b =
      let at : ℕ → ℕ = λ k. 21 + ((n - 2) * 5 + ctx) * 8 + k in
      rw (eight_at (λ k. get_or costs (at k) nan) rank b) (known.cost (at rank) (omega (arith, known.most)))

  square_within_at : (l a i : ℕ) → l < s.lines → a < s.len → i < n
      → Within (square (get_or samples (place_at s l a) nan) (get_or colours i nan)) (2 ^ 26)
  square_within_at l a i on inside under =
      square_bound (get_or samples (place_at s l a) nan) (get_or colours i nan)
      (known.sample (place_at s l a) (known.sound.inside l a on inside)) (known.colour i under)

  pub squares_within : (l a i : ℕ) → l < s.lines → a < s.len → i < n
      → Within (get_or (squares_of (get_or samples (place_at s l a) nan) colours) i nan) (2 ^ 26)
  unfolding squares_of
  squares_within l a i on inside under =
      rw (eight_at (λ j. square (get_or samples (place_at s l a) nan) (get_or colours j nan)) i (omega (arith, known.most)))
      (square_within_at l a i on inside under)

  -- ---- a cell, and the first k cells of a line
  module _ (m : List ℕ) (l : ℕ) (below : Below m n) (on : l < s.lines) where
    abbrev cell_found : ℕ → Cell
    cell_found a = cell_at samples costs colours n lambda s m l a

    pub cell_rates_within : (a rank : ℕ) → rank < 8 → Within (get_or (rates_at samples costs colours n lambda s m l a) rank nan) 32
    cell_rates_within a rank under =
        let small = context_small m s l a in
        rates_within (around_in m s l a).ctx rank (eqb (l + a) 0) small under

    cell_within : (a : ℕ) → a < s.len → Within (cell_found a).cost.dist (2 ^ 26) × Within (cell_found a).cost.rate 32
    unfolding cell_at
    cell_within a inside =
        let some : 0 < n = omega (arith, known.two) in
        let order = order_in m s l a n below some known.most in
        let dists = squares_of (get_or samples (place_at s l a) nan) colours in
        let rates = rates_at samples costs colours n lambda s m l a in
        let chose = chosen_in dists rates lambda n (order_of (around_in m s l a) n) some order.0 order.1 in
        (squares_within l a _ on inside chose.0, cell_rates_within a _ chose.1)

  abbrev cells : List ℕ → ℕ → Float → ℕ → Cells
  cells m l row k = cells_of samples costs colours n lambda s m l row k

  pub cells_within : (m : List ℕ) (l : ℕ) (row : Float) (k : ℕ) → Below m n → l < s.lines → k ≤ s.len → Within row 32
      → Within (cells m l row k).cost.dist (k * 2 ^ 26) × Within (cells m l row k).cost.rate (suc k * 2 ^ 5)
  unfolding cells_of of_bits
  cells_within m l row zero below on few paid = ((zero-le, inl refl), paid)
  cells_within m l row (suc k) below on few paid =
      let so_far = cells_within m l row k below on (omega arith) paid in
      let put_below = cells_below samples costs colours n lambda s (omega (arith, known.two)) known.most m l row k below in
      let next = cell_within (cells m l row k).map l put_below on k few in (
        more_within _ _ k 26 (omega (arith, known.sound.short)) (lit≤ tt) so_far.0 next.0,
        more_within _ _ (suc k) 5 (omega (arith, known.sound.short)) (lit≤ tt) so_far.1 next.1,
      )

  -- ---- a line of given indices
  pub dist_within : (l : ℕ) (g : ℕ → ℕ) (k : ℕ) → l < s.lines → ((a : ℕ) → g a < n) → k ≤ s.len
      → Within (dist_line samples colours s l g k) (k * 2 ^ 26)
  unfolding dist_line of_bits
  dist_within l g zero on under few = (zero-le, inl refl)
  dist_within l g (suc k) on under few =
      more_within _ _ k 26 (omega (arith, known.sound.short)) (lit≤ tt) (dist_within l g k on under (omega arith))
      (square_within_at l k (g k) on few (under k))
