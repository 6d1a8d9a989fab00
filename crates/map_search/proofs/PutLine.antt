-- The map with the chosen line in it: its length, its indices, and how the code comes to it. Assumes nothing.
use Prim.Native.Nat.{ℕ, ◌-◌, ◌≤◌, ◌<◌}
use mathlib.Core.Bool.{Bool, true, false, cond}
use mathlib.Core.Path.{◌≡◌, refl}
use mathlib.Core.List.{List}
use native.Mathlib.Omega.{arith}
use lib.Dec.{eqb}
use lib.Ieee.{Float}
use lib.ListN.{length}
use borrow.Author.Tests.{eqb-false, ne_eqb}
use Rattle.near.specs.Near.{Below}
use Rattle.cells.specs.declared.Cost.{Cost}
use Rattle.scan.specs.declared.Scan.{Scan}
use Rattle.map_search.specs.declared.Choice.{Choice}
use Rattle.scan.specs.Scan.{cell_in, fill, Sound}
use Rattle.map_search.specs.Lines.{row_cost, cells_of, put_line}
use Rattle.scan.proofs.Fill.{length_fill, fill_below}
use Rattle.map_search.proofs.LineCells.{cells_below, length_cells, overwritten, copied_over}
use Rattle.map_search.proofs.LineChoice.{Plain}

-- the line before line l, copied, and a line of one index
abbrev copy_of : Scan → List ℕ → ℕ → List ℕ
copy_of s m l = fill s l (λ a. cell_in m s (l - 1) a) m s.len

abbrev filled : Scan → List ℕ → ℕ → ℕ → List ℕ
filled s m l index = fill s l (λ a. index) m s.len

module _ (samples costs colours : List Float) (n : ℕ) (lambda : Float) (s : Scan) (m : List ℕ) (l ctx : ℕ) where
  -- the map with k cells of the line's own
  abbrev walked : ℕ → List ℕ
  walked k = (cells_of samples costs colours n lambda s m l (row_cost costs ctx 0) k).map

  abbrev put : Choice → List ℕ
  put c = put_line samples costs colours n lambda s m l ctx c

  pub length_put : (c : Choice) → length (put c) ≡ length m
  unfolding put_line
  length_put c = by_flag (eqb c.flag 0) (eqb c.flag 1)
    where
      by_flag : (t r : Bool) → length (cond t (walked s.len) (cond r (filled s m l c.index) (copy_of s m l))) ≡ length m
      by_flag true r = length_cells samples costs colours n lambda s m l (row_cost costs ctx 0) s.len
      by_flag false true = length_fill s l (λ a. c.index) m s.len
      by_flag false false = length_fill s l (λ a. cell_in m s (l - 1) a) m s.len

  pub put_below : (c : Choice) → 0 < n → n ≤ 8 → c.index < n → Below m n → Below (put c) n
  unfolding put_line
  put_below c some most under below = by_flag (eqb c.flag 0) (eqb c.flag 1)
    where
      by_flag : (t r : Bool) → Below (cond t (walked s.len) (cond r (filled s m l c.index) (copy_of s m l))) n
      by_flag true r = cells_below samples costs colours n lambda s some most m l (row_cost costs ctx 0) s.len below
      by_flag false true = fill_below s l n (λ a. c.index) m s.len (λ a. under) below
      by_flag false false = fill_below s l n (λ a. cell_in m s (l - 1) a) m s.len (λ a. below _) below

  pub put_own : (cost : Cost) → walked s.len ≡ put (record { cost = cost; flag = 0; index = 0 })
  unfolding put_line
  put_own cost = refl

  -- a copy or a constant over k cells of the line's own
  pub put_plain : (N : ℕ) → Sound s N → l < s.lines → (k : ℕ) → k ≤ s.len → (c : Choice) → Plain n l c
      → cond (eqb c.flag 1) (filled s (walked k) l c.index) (copy_of s (walked k) l) ≡ put c
  unfolding put_line
  put_plain N sound on k few c plain = rw (ne_eqb c.flag 0 (λ e. omega (arith, plain.0))) (by_flag (eqb c.flag 1) refl)
    where
      by_flag : (t : Bool) → eqb c.flag 1 ≡ t
          → cond t (filled s (walked k) l c.index) (copy_of s (walked k) l) ≡ cond t (filled s m l c.index) (copy_of s m l)
      by_flag true e = overwritten samples costs colours n lambda s N sound m l on (row_cost costs ctx 0) (λ a. c.index) k few
      by_flag false e =
          copied_over samples costs colours n lambda s N sound m l on (row_cost costs ctx 0) k few (plain.2 (eqb-false c.flag 1 e))
