-- Document 01, 'Numbers returned', 18, and the whole answer of `color_ctx`. Document 02, L7: it carries, beside the order, the rank
-- of every index below n, so that rank and order undo each other; places from n upward hold 0.
use Rattle.std.specs.Prelude.{ℕ, zero, suc, ◌+◌, ◌-◌, ◌*◌, ◌≤◌, ◌<◌, Bool, cond, ◌&&◌, List, [], ◌∷◌, ◌++◌, ◌≡◌, ltb, length, get_or, replicate}
use Rattle.lists.specs.Counted.{within, all_in, each}
use Rattle.context.specs.Order.{Around, by_three, around, order_of, rank_of}
use Rattle.color_ctx.specs.declared.Context.{Context}

-- the places of the neighbours that are used: left, top, diagonal
unfoldable pub used : ℕ → ℕ → ℕ → List ℕ
used s zero zero = []
used s zero (suc x) = x ∷ []
used s (suc y) zero = (y * s) ∷ []
used s (suc y) (suc x) = (suc y * s + x) ∷ (y * s + suc x) ∷ (y * s + x) ∷ []

-- place p stands in the map and has an index below n
abbrev pub usable : List ℕ → ℕ → ℕ → Bool
usable map n p = ltb p (length map) && ltb (get_or map p 0) n

-- not at (0,0), x below the stride, n from 2 to 8, each used neighbour within the map and below n
unfoldable pub context_ok : List ℕ → ℕ → ℕ → ℕ → ℕ → Bool
context_ok map s y x n = ltb 0 (y + x) && ltb x s && within 2 8 n && all_in (usable map n) (used s y x)

-- the rank of every index below n
abbrev pub ranks_of : Around → ℕ → List ℕ
ranks_of a n = each (rank_of a n) n

-- order and ranks in eight places: those from n upward are 0
unfoldable pub answered : Around → ℕ → Context
answered a n =
    record { number = 0; ctx = a.ctx; order = order_of a n ++ replicate (8 - n) 0; ranks = ranks_of a n ++ replicate (8 - n) 0 }

abbrev pub refused : Context
refused = record { number = 18; ctx = 0; order = replicate 8 0; ranks = replicate 8 0 }

unfoldable pub context_of : List ℕ → ℕ → ℕ → ℕ → ℕ → Context
context_of map s y x n = cond (context_ok map s y x n) (answered (around by_three map s y x) n) refused

-- rank and order undo each other; places from n upward hold 0
pub record Undo (n : ℕ) (order ranks : List ℕ) : Type 0 where
  pub index : (i : ℕ) → i < n → (get_or ranks i 0 < n) × (get_or order (get_or ranks i 0) 0 ≡ i)
  pub rank : (r : ℕ) → r < n → (get_or order r 0 < n) × (get_or ranks (get_or order r 0) 0 ≡ r)
  pub zeros : (k : ℕ) → n ≤ k → (get_or order k 0 ≡ 0) × (get_or ranks k 0 ≡ 0)

-- so of each answer with number 0; the only other number is 18, with zeros, written out: this holds of no other `refused`
pub record Answers (n : ℕ) (c : Context) : Type 0 where
  pub undo : c.number ≡ 0 → Undo n c.order c.ranks
  pub zeros : (c.number ≡ 0 → ⊥) → c ≡ record { number = 18; ctx = 0; order = replicate 8 0; ranks = replicate 8 0 }
