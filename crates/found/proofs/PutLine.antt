-- A line put by a choice leaves the others alone, and is as its flag says. Assumes nothing.
use Prim.Native.Nat.{ℕ, zero, suc, ◌-◌, ◌≤◌, ◌<◌}
use mathlib.Core.Bool.{Bool, true, false, cond}
use mathlib.Core.Path.{◌≡◌, refl, sym, ◌∙◌}
use mathlib.Core.List.{List}
use native.Mathlib.Omega.{arith}
use lib.Dec.{eqb}
use lib.Ieee.{Float}
use lib.ListN.{length}
use Rattle.accept.specs.Accepted.{line_ok}
use Rattle.scan.specs.Scan.{cell_in, fill, Sound}
use Rattle.map_search.specs.Lines.{row_cost, cells_of, put_line}
use Rattle.scan.specs.declared.Scan.{Scan}
use Rattle.map_search.specs.declared.Choice.{Choice}
use Rattle.scan.proofs.Fill.{fill_other}
use Rattle.map_search.proofs.LineCells.{cells_other}
use Rattle.found.proofs.Lines.{constant_ok, copy_ok, fill_at}

module _ (samples costs colours : List Float) (n : ℕ) (lambda : Float) (s : Scan) (N : ℕ) (S : Sound s N) where
  -- the map m with line l put by choice c; and the three ways to put it
  abbrev put : List ℕ → ℕ → ℕ → Choice → List ℕ
  put m l ctx c = put_line samples costs colours n lambda s m l ctx c

  abbrev by_cells : List ℕ → ℕ → ℕ → List ℕ
  by_cells m l ctx = (cells_of samples costs colours n lambda s m l (row_cost costs ctx 0) s.len).map

  abbrev constantly : List ℕ → ℕ → ℕ → List ℕ
  constantly m l index = fill s l (λ a. index) m s.len

  abbrev copying : List ℕ → ℕ → List ℕ
  copying m l = fill s l (λ a. cell_in m s (l - 1) a) m s.len

  -- a put line leaves the others alone
  pub put_other : (m : List ℕ) (l ctx : ℕ) (c : Choice) (j a : ℕ) → l < s.lines → j < s.lines → (j ≡ l → ⊥) → a < s.len
      → cell_in (put m l ctx c) s j a ≡ cell_in m s j a
  unfolding put_line
  put_other m l ctx c j a inside other apart short = go (eqb c.flag 0) (eqb c.flag 1)
    where
      go : (own constant : Bool)
          → cell_in (cond own (by_cells m l ctx) (cond constant (constantly m l c.index) (copying m l))) s j a
          ≡ cell_in m s j a
      go true constant =
          cells_other samples costs colours n lambda s N S m l inside (row_cost costs ctx 0) s.len j a other apart short
          (omega arith)
      go false true = fill_other s N S l inside (λ a. c.index) m s.len j a other apart short (omega arith)
      go false false = fill_other s N S l inside (λ a. cell_in m s (l - 1) a) m s.len j a other apart short (omega arith)

  -- and is as its flag says
  pub put_ok : (m : List ℕ) (l ctx : ℕ) (c : Choice) → N ≤ length m → l < s.lines → c.flag ≤ 2 → (c.flag ≡ 2 → 0 < l)
      → line_ok c.flag (cell_in (put m l ctx c) s) s.len l ≡ true
  unfolding put_line line_ok
  put_ok m l ctx c room inside most copied = go c.flag refl most
    where
      go : (flag : ℕ) → c.flag ≡ flag → flag ≤ 2
          → let map = cond (eqb flag 0) (by_cells m l ctx) (cond (eqb flag 1) (constantly m l c.index) (copying m l)) in
          line_ok flag (cell_in map s) s.len l ≡ true
      go zero e q = refl
      go (suc zero) e q =
          constant_ok (cell_in (constantly m l c.index) s) s.len l c.index S.some
          (λ a h. fill_at s N S l inside (λ a. c.index) m s.len a room h (omega arith))
      go (suc (suc zero)) e q =
          let before : ℕ → ℕ = λ a. cell_in m s (l - 1) a in
          copy_ok (cell_in (copying m l) s) s.len l (copied e) (λ a h.
          let apart : l - 1 ≡ l → ⊥ = λ x. omega (arith, copied e) in
          fill_at s N S l inside before m s.len a room h (omega arith)
          ∙ sym (fill_other s N S l inside before m s.len (l - 1) a (omega arith) apart h (omega arith)))
      go (suc (suc (suc k))) e q = absurd (omega arith)
