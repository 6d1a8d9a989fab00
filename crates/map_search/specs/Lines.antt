-- Lines, their candidates and the walk over them: document 01, 'Line choice'. Assumes nothing.
use Rattle.std.specs.Prelude.{ℕ, zero, suc, ◌+◌, ◌-◌, ◌*◌, Bool, cond, List, [], ◌∷◌, ◌++◌, eqb, get_or, set, Float, Option, Some, None}
use Rattle.std.specs.Float.{nan, binary32}
use Rattle.std.specs.Float.Ieee.{add, mul, le, of_bits}
use Rattle.context.specs.Order.{order_of, rank_of}
use Rattle.cells.specs.Cell.{square, total_of, plus, first_cheapest, squares_of, rates_of, cell_of}
use Rattle.cells.specs.declared.Cost.{Cost}
use Rattle.cells.specs.declared.Cell.{Cell}
use Rattle.scan.specs.declared.Scan.{Scan}
use Rattle.scan.specs.Scan.{place_at, cell_in, fill, around_in}
use Rattle.map_search.specs.declared.Choice.{Choice}

-- the squares along the first k cells of line l, where cell a has the colour of index g a
unfoldable pub dist_line : List Float → List Float → Scan → ℕ → (ℕ → ℕ) → ℕ → Float
dist_line samples colours s l g zero = of_bits binary32 0
dist_line samples colours s l g (suc k) =
    add binary32 (dist_line samples colours s l g k) (square (get_or samples (place_at s l k) nan) (get_or colours (g k) nan))

-- a copy of the line before; row is the flag's cost
abbrev pub copied_by : List Float → List Float → Scan → List ℕ → ℕ → Float → Choice
copied_by samples colours s m l row =
    let cost : Cost = record { dist = dist_line samples colours s l (λ a. cell_in m s (l - 1) a) s.len; rate = row } in
    record { cost = cost; flag = 2; index = 0 }

-- the flag's cost under its context
abbrev pub row_cost : List Float → ℕ → ℕ → Float
row_cost costs ctx flag = get_or costs (9 + ctx * 3 + flag) nan

pub record Cells : Type 0 where
  pub map : List ℕ
  pub cost : Cost

-- the walk so far: its map, flags, last flag (3 at first), error and bits
pub record Walk : Type 0 where
  pub map : List ℕ
  pub flags : List ℕ
  pub ctx : ℕ
  pub cost : Cost

-- before the first line
abbrev pub started : List ℕ → List ℕ → Walk
started map flags = record { map = map; flags = flags; ctx = 3; cost = record { dist = of_bits binary32 0; rate = of_bits binary32 0 } }

pub record Ended : Type 0 where
  pub map : List ℕ
  pub flags : List ℕ
  pub result : Option Cost

module _ (samples costs colours : List Float) (n : ℕ) (lambda : Float) (s : Scan) where
  abbrev pub rates_at : List ℕ → ℕ → ℕ → List Float
  rates_at m l a = rates_of costs n (around_in m s l a).ctx (eqb (l + a) 0)

  -- the cheapest index of a cell
  unfoldable pub cell_at : List ℕ → ℕ → ℕ → Cell
  cell_at m l a = cell_of (squares_of (get_or samples (place_at s l a) nan) colours) (rates_at m l a) lambda (order_of (around_in m s l a) n)

  -- cell by cell: the first k cells of line l; row is the flag's cost
  abbrev pub with_cell : Cells → ℕ → ℕ → Cells
  with_cell c l a = record { map = set c.map (place_at s l a) (cell_at c.map l a).index; cost = plus c.cost (cell_at c.map l a).cost }

  unfoldable pub cells_of : List ℕ → ℕ → Float → ℕ → Cells
  cells_of m l row zero = record { map = m; cost = record { dist = of_bits binary32 0; rate = row } }
  cells_of m l row (suc k) = with_cell (cells_of m l row k) l k

  -- the candidates of line l: copy, constant, cell by cell
  abbrev pub copied : List ℕ → ℕ → ℕ → Choice
  copied m l ctx = copied_by samples colours s m l (row_cost costs ctx 2)

  abbrev pub constant : List ℕ → ℕ → ℕ → ℕ → Choice
  constant m l ctx c =
      let rate = add binary32 (row_cost costs ctx 1) (get_or (rates_at m l 0) (rank_of (around_in m s l 0) n c) nan) in
      let cost : Cost = record { dist = dist_line samples colours s l (λ a. c) s.len; rate = rate } in
      record { cost = cost; flag = 1; index = c }

  abbrev pub own : List ℕ → ℕ → ℕ → Choice
  own m l ctx = record { cost = (cells_of m l (row_cost costs ctx 0) s.len).cost; flag = 0; index = 0 }

  -- k constants, from index c on
  unfoldable pub constants : List ℕ → ℕ → ℕ → ℕ → ℕ → List Choice
  constants m l ctx c zero = []
  constants m l ctx c (suc k) = constant m l ctx c ∷ constants m l ctx (c + 1) k

  abbrev pub total_by : Choice → Float
  total_by c = total_of c.cost lambda

  -- the candidates of line l in their order: copy (from the second line), constant by ascending index, cell by cell
  unfoldable pub candidates : List ℕ → ℕ → ℕ → List Choice
  candidates m l ctx = cond (eqb l 0) [] (copied m l ctx ∷ []) ++ (constants m l ctx 0 n ++ (own m l ctx ∷ []))

  unfoldable pub line_of : List ℕ → ℕ → ℕ → Choice
  line_of m l ctx = first_cheapest total_by (own m l ctx) (candidates m l ctx)

  -- the map with the chosen line in it
  unfoldable pub put_line : List ℕ → ℕ → ℕ → Choice → List ℕ
  put_line m l ctx c =
      cond (eqb c.flag 0) (cells_of m l (row_cost costs ctx 0) s.len).map
      (cond (eqb c.flag 1) (fill s l (λ a. c.index) m s.len) (fill s l (λ a. cell_in m s (l - 1) a) m s.len))

  abbrev pub after : Walk → ℕ → Choice → Walk
  after t l c = record { map = put_line t.map l t.ctx c; flags = set t.flags l c.flag; ctx = c.flag; cost = plus t.cost c.cost }

  abbrev pub next : Walk → ℕ → Walk
  next t l = after t l (line_of t.map l t.ctx)

  module _ (head bound : Float) where
    -- error + lambda × (head + bits so far) ≥ bound
    abbrev pub reached : Walk → Bool
    reached t = le bound (add binary32 t.cost.dist (mul binary32 lambda (add binary32 head t.cost.rate)))

    -- the rest of the walk: k lines from line l on
    unfoldable pub rest_of : ℕ → ℕ → Walk → Ended
    rest_of zero l t = record { map = t.map; flags = t.flags; result = Some t.cost }
    rest_of (suc k) l t =
        cond (reached (next t l)) (record { map = (next t l).map; flags = (next t l).flags; result = None }) (rest_of k (l + 1) (next t l))

    abbrev pub map_of : List ℕ → List ℕ → Ended
    map_of map flags = rest_of s.lines 0 (started map flags)
