-- Document 01, 'Context': the neighbours that come first and the context, then the remaining indices ascending.
use Rattle.std.specs.Prelude.{ℕ, zero, suc, Bool, true, false, cond, List, [], ◌∷◌, ◌++◌, eqb}
use Rattle.lists.specs.Counted.{elem}
use Rattle.context.specs.Map.{cell}

-- the context, and the neighbours' indices that come first in the order
pub record Around : Type 0 where
  pub ctx : ℕ
  pub firsts : List ℕ

-- whether left = top, left = diagonal, diagonal = top; then the three indices
unfoldable pub choose : Bool → Bool → Bool → ℕ → ℕ → ℕ → Around
choose true true e left top diag = record { ctx = 4; firsts = left ∷ [] }
choose true false e left top diag = record { ctx = 3; firsts = left ∷ diag ∷ [] }
choose false true e left top diag = record { ctx = 2; firsts = left ∷ top ∷ [] }
choose false false true left top diag = record { ctx = 2; firsts = top ∷ left ∷ [] }
choose false false false left top diag = record { ctx = 1; firsts = left ∷ top ∷ diag ∷ [] }

unfoldable pub by_three : ℕ → ℕ → ℕ → Around
by_three left top diag = choose (eqb left top) (eqb left diag) (eqb diag top) left top diag

-- at row y, column x; `three` says what three neighbours give. Cell (0,0) has none
unfoldable pub around : (ℕ → ℕ → ℕ → Around) → List ℕ → ℕ → ℕ → ℕ → Around
around three map s zero zero = record { ctx = 0; firsts = [] }
around three map s zero (suc x) = record { ctx = 0; firsts = cell map s zero x ∷ [] }
around three map s (suc y) zero = record { ctx = 0; firsts = cell map s y zero ∷ [] }
around three map s (suc y) (suc x) = three (cell map s (suc y) x) (cell map s y (suc x)) (cell map s y x)

-- 0, 1, .., n - 1 without those in xs
unfoldable pub others : List ℕ → ℕ → List ℕ
others xs zero = []
others xs (suc n) = others xs n ++ cond (elem n xs) [] (n ∷ [])

unfoldable pub order_of : Around → ℕ → List ℕ
order_of a n = a.firsts ++ others a.firsts n

-- the place of the first x, or the length
unfoldable pub place : ℕ → List ℕ → ℕ
place x [] = 0
place x (y ∷ ys) = cond (eqb x y) 0 (suc (place x ys))

-- the rank of index i
unfoldable pub rank_of : Around → ℕ → ℕ → ℕ
rank_of a n i = place i (order_of a n)
