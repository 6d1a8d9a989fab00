-- The order at a cell: each index below n, at most 8 of them. Assumes nothing.
use Prim.Native.Nat.{ℕ, suc, ◌≤◌, ◌<◌}
use mathlib.Core.List.{List, [], ◌∷◌}
use native.Mathlib.Omega.{arith}
use lib.ListN.{length, get_or}
use Rattle.context.specs.Order.{Around, order_of}
use Rattle.context.proofs.Order.{FirstsOk, order_length, order_below}
use Rattle.cells.proofs.Cheapest.{All}

every : (n : ℕ) (xs : List ℕ) → ((i : ℕ) → i < length xs → get_or xs i 0 < n) → All (λ i. i < n) xs
every n [] at = tt
every n (x ∷ xs) at = (at 0 (omega arith), every n xs (λ i h. at (suc i) (omega arith)))

module _ (a : Around) (n : ℕ) (ok : FirstsOk a n) where
  pub order_under : All (λ i. i < n) (order_of a n)
  order_under = every n (order_of a n) (λ i h. order_below a n ok i (omega (arith, order_length a n ok)))

  pub order_few : n ≤ 8 → length (order_of a n) ≤ 8
  order_few most = omega (arith, order_length a n ok)
