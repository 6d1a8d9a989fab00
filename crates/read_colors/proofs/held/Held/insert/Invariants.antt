use mathlib.Core.Path.{◌≡◌}
use mathlib.Core.List.{List}
use Prim.Native.Nat.{ℕ}
use lib.ListN.{length, drop, replicate}
use Rattle.lists.specs.Written.{written}
use Rattle.read_colors.specs.Colors.{insert}
use Rattle.read_colors.proofs.held.Held.insert.Given as goal

-- What is put so far, and where the colour carried stands among the rest. Assumes nothing.
pub record Inv (cs : List ℕ) (e : ℕ) (out : List ℕ) (carry i : ℕ) : Type 0 where
  pub eight : length out ≡ 8
  pub put : written out i (insert carry (drop i cs)) ≡ written (replicate 8 0) 0 (insert e cs)

abbrev pub invariant-loop-i : goal.invariant-loop-i
invariant-loop-i l = Inv l.c-items l.initial.carry l.colors l.carry l.i
