-- The context of a line's first cell, from the second line on. Assumes nothing.
use Prim.Native.Nat.{ℕ, suc, ◌+◌, ◌*◌}
use mathlib.Core.Bool.{Bool, true, false}
use mathlib.Core.Path.{◌≡◌, ap, sym, ◌∙◌}
use mathlib.Core.List.{List, [], ◌∷◌}
use native.Mathlib.Omega.{arith}
use lib.ListN.{get_or}
use Rattle.context.specs.Map.{cell, row_at, col_at}
use Rattle.context.specs.Order.{Around, by_three, around, order_of}
use Rattle.scan.specs.declared.Scan.{Scan}
use Rattle.scan.specs.Scan.{place_at, cell_in, fill, around_in, Sound}
use Rattle.scan.specs.LineBefore.{FirstByLineBefore, FirstByNoFill}
use Rattle.scan.proofs.Fill.{fill_other}

-- where v alone comes first, the context is 0
abbrev alone : ℕ → Around
alone v = record { ctx = 0; firsts = v ∷ [] }

module _ (s : Scan) (N : ℕ) (sound : Sound s N) (l : ℕ) where
  -- the first cell of the line before is the one neighbour
  pub first_around : (m : List ℕ) → around_in m s (suc l) 0 ≡ alone (cell_in m s l 0)
  unfolding around cell
  first_around m = go s.transposed (sound.major l 0)
    where
      go : (t : Bool) → row_at t l 0 * s.w + col_at t l 0 ≡ place_at s l 0
          → around by_three m s.w (row_at t (suc l) 0) (col_at t (suc l) 0) ≡ alone (cell_in m s l 0)
      go true e = ap (λ (p : ℕ). alone (get_or m p 0)) e
      go false e = ap (λ (p : ℕ). alone (get_or m p 0)) e

  first_same : (m m' : List ℕ) → cell_in m s l 0 ≡ cell_in m' s l 0 → around_in m s (suc l) 0 ≡ around_in m' s (suc l) 0
  first_same m m' e = first_around m ∙ ap alone e ∙ sym (first_around m')

pub first_by_line_before : FirstByLineBefore
first_by_line_before s N sound l m m' agree n =
    let same = first_same s N sound l m m' (agree 0 sound.some) in
    (ap (λ (a : Around). a.ctx) same, ap (λ (a : Around). order_of a n) same)

pub first_by_no_fill : FirstByNoFill
first_by_no_fill s N sound l on m g k most =
    first_same s N sound l (fill s (suc l) g m k) m
    (fill_other s N sound (suc l) on g m k l 0 (omega arith) (λ e. omega arith) sound.some most)
