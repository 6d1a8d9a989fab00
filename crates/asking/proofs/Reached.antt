-- The lines reached, by one line more and at the end; and the askings with them. Assumes nothing.
use Prim.Native.Nat.{ℕ, zero, suc, ◌+◌, ◌-◌, ◌≤◌, ◌<◌}
use mathlib.Core.Bool.{cond}
use mathlib.Core.Path.{◌≡◌, refl}
use mathlib.Core.List.{List}
use native.Mathlib.Omega.{arith}
use borrow.Author.Tests.{ne_eqb}
use lib.Dec.{eqb}
use lib.Ieee.{Float}
use Rattle.scan.specs.declared.Scan.{Scan}
use Rattle.map_search.specs.Lines.{Walk, next, reached}
use Rattle.asking.specs.Asking.{reached_from}

module _ (samples costs colours : List Float) (n : ℕ) (lambda : Float) (s : Scan) (head bound : Float) where
  abbrev lines_from : ℕ → ℕ → Walk → ℕ
  lines_from k l t = reached_from samples costs colours n lambda s head bound k l t

  -- walk t with line l is walk u
  pub reached_more : (lines l : ℕ) (t u : Walk) → l < lines → next samples costs colours n lambda s t l ≡ u
      → lines_from (lines - l) l t ≡ cond (reached samples costs colours n lambda s head bound u) (l + 1) (lines_from (lines - (l + 1)) (l + 1) u)
  unfolding reached_from
  reached_more lines l t u more is = let e : lines - l ≡ suc (lines - (l + 1)) = omega arith in rw (e, ← is) refl

  pub reached_all : (lines l : ℕ) (t : Walk) → lines ≤ l → lines_from (lines - l) l t ≡ l
  unfolding reached_from
  reached_all lines l t done = let e : lines - l ≡ 0 = omega arith in rw e refl

-- with line l's asking there are as many as lines before it
pub asked_more : (later l : ℕ) → later ≡ l - 1 → later + cond (eqb l 0) 0 1 ≡ l
asked_more later zero e = omega arith
asked_more later (suc l) e = rw (ne_eqb (suc l) 0 (omega arith)) (omega arith)
