-- A line cell by cell: its indices are below n, it leaves the other lines alone, and another line may overwrite it. Assumes nothing.
use Prim.Native.Nat.{ℕ, zero, suc, ◌+◌, ◌-◌, ◌≤◌, ◌<◌}
use mathlib.Core.Path.{◌≡◌, refl, ◌∙◌}
use mathlib.Core.List.{List}
use native.Mathlib.Omega.{arith}
use native.Mathlib.Numerals.{add-one}
use lib.Ieee.{Float}
use lib.ListN.{set, length, length-set}
use lib.Seq.{get_or-set_other}
use Rattle.context.specs.Order.{order_of}
use Rattle.near.specs.Near.{Below}
use Rattle.cells.specs.declared.Cost.{Cost}
use Rattle.cells.specs.declared.Cell.{Cell}
use Rattle.cells.specs.Cell.{plus}
use Rattle.cells.proofs.Ranked.{chosen_in}
use Rattle.scan.specs.declared.Scan.{Scan}
use Rattle.scan.specs.Scan.{place_at, cell_in, fill, around_in, Sound}
use Rattle.map_search.specs.Lines.{Cells, cell_at, cells_of}
use Rattle.scan.proofs.Fill.{below_set, lines_apart, fill_set, fill_same}
use Rattle.map_search.proofs.Neighbours.{order_in}

module _ (samples costs colours : List Float) (n : ℕ) (lambda : Float) (s : Scan) where
  -- the first k cells of line l; row is the flag's cost
  abbrev cells : List ℕ → ℕ → Float → ℕ → Cells
  cells m l row k = cells_of samples costs colours n lambda s m l row k

  -- ---- a chosen index is below n
  module _ (some : 0 < n) (most : n ≤ 8) where
    cell_under : (m : List ℕ) (l a : ℕ) → Below m n → (cell_at samples costs colours n lambda s m l a).index < n
    unfolding cell_at
    cell_under m l a below =
        let order = order_in m s l a n below some most in
        (chosen_in _ _ lambda n (order_of (around_in m s l a) n) some order.0 order.1).0

    pub cells_below : (m : List ℕ) (l : ℕ) (row : Float) (k : ℕ) → Below m n → Below (cells m l row k).map n
    unfolding cells_of
    cells_below m l row zero below = below
    cells_below m l row (suc k) below =
        let so_far = cells_below m l row k below in
        below_set (cells m l row k).map n (place_at s l k) _ so_far (cell_under (cells m l row k).map l k so_far)

  pub length_cells : (m : List ℕ) (l : ℕ) (row : Float) (k : ℕ) → length (cells m l row k).map ≡ length m
  unfolding cells_of
  length_cells m l row zero = refl
  length_cells m l row (suc k) = length-set (cells m l row k).map (place_at s l k) _ ∙ length_cells m l row k

  -- one cell more, by what a function found: the cell, its place and the costs so far
  pub cells_by : (m : List ℕ) (l : ℕ) (row : Float) (k : ℕ) (put : List ℕ) (paid : Cost) (v : Cell) (p : ℕ) (sum : Cost)
      → put ≡ (cells m l row k).map → paid ≡ (cells m l row k).cost
      → v ≡ cell_at samples costs colours n lambda s put l k → p ≡ place_at s l k → sum ≡ plus paid v.cost
      → (set put p v.index ≡ (cells m l row (k + 1)).map) × (sum ≡ (cells m l row (k + 1)).cost)
  unfolding cells_of
  cells_by m l row k put paid v p sum e f g h i = (rw (add-one, h, g, e) refl, rw (add-one, i, g, f, e) refl)

  -- ---- what the cells wrote is overwritten, and other lines are as they were
  module _ (N : ℕ) (sound : Sound s N) (m : List ℕ) (l : ℕ) (on : l < s.lines) (row : Float) where
    pub cells_other : (k j b : ℕ) → j < s.lines → (j ≡ l → ⊥) → b < s.len → k ≤ s.len
        → cell_in (cells m l row k).map s j b ≡ cell_in m s j b
    unfolding cells_of
    cells_other zero j b j-on differ p q = refl
    cells_other (suc k) j b j-on differ p q =
        get_or-set_other (cells m l row k).map (place_at s l k) (place_at s j b) _ 0 (lines_apart s N sound l on j b k j-on p (omega arith) differ)
        ∙ cells_other k j b j-on differ p (omega arith)

    pub overwritten : (g : ℕ → ℕ) (k : ℕ) → k ≤ s.len → fill s l g (cells m l row k).map s.len ≡ fill s l g m s.len
    unfolding cells_of
    overwritten g zero q = refl
    overwritten g (suc k) q =
        fill_set s N sound l on g (cells m l row k).map k _ s.len (omega arith) (omega arith) ∙ overwritten g k (omega arith)

    pub copied_over : (k : ℕ) → k ≤ s.len → 0 < l
        → fill s l (λ a. cell_in (cells m l row k).map s (l - 1) a) (cells m l row k).map s.len
        ≡ fill s l (λ a. cell_in m s (l - 1) a) m s.len
    copied_over k q later =
        let before : ℕ → ℕ = λ a. cell_in m s (l - 1) a in
        fill_same s l _ before (cells m l row k).map s.len (λ a h. cells_other k (l - 1) a (omega arith) (λ e. omega arith) h q)
        ∙ overwritten before k q
