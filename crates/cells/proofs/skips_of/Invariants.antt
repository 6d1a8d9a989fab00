use Prim.Native.Nat.{ℕ, ◌/◌, ◌%◌, ◌<◌}
use mathlib.Core.Bool.{Bool, false, ◌||◌}
use mathlib.Core.Path.{◌≡◌}
use lib.Dec.{eqb, leb}
use lib.ListN.{length, get_or}
use Rattle.cells.proofs.skips_of.Given as goal

-- place j
abbrev pub due : ℕ → ℕ → Bool
due n j = leb n (j % 8) || eqb (j % 8) (j / 8)

abbrev pub invariant-loop-j : goal.invariant-loop-j
invariant-loop-j l = ((k : ℕ) → k < l.j → get_or l.skip-items k false ≡ due l.n k) × (length l.skip-items ≡ 64)
