-- Eight places that are filled from the front with what a row of the tables has below n. Assumes nothing.
use mathlib.Core.Path.{◌≡◌, refl, sym, ◌∙◌}
use mathlib.Core.List.{List, [], ◌∷◌, ◌++◌, append_assoc}
use Prim.Native.Nat.{ℕ, suc, ◌+◌, ◌-◌, ◌≤◌, ◌<◌}
use native.Mathlib.Numerals.{add-one}
use native.Mathlib.Omega.{arith}
use lib.ListN.{length, get_or, set, take, replicate}
use lib.Seq.{set_at, take-suc, take_all, length-take-le}
use Rattle.lists.proofs.Counted.{length_up_to}
use Rattle.lists.proofs.Each.{each_at}
use Rattle.context.specs.Order.{by_three, order_of, rank_of}
use Rattle.rows.specs.Rows.{row_of, around_row, Fits, order_row}
use Rattle.rows.proofs.Laws.{row_around, row_fits, row_length, order_row_is, rank_row}
use Rattle.color_ctx.specs.declared.Context.{Context}
use Rattle.color_ctx.specs.Context.{ranks_of, answered}

-- the row of three neighbours
pub row_known : (row l t d n : ℕ) → row ≡ row_of l t d → l < n → t < n → d < n → n ≤ 8 → Fits row n × (around_row row ≡ by_three l t d)
row_known row l t d n e h g k m = rw e (row_fits l t d n h g k m, row_around l t d (omega arith) (omega arith) (omega arith))

-- the first i of a list, then zeros
abbrev pub filling : List ℕ → ℕ → List ℕ
filling xs i = take i xs ++ replicate (8 - i) 0

abbrev answer : ℕ → List ℕ → List ℕ → Context
answer ctx order ranks = record { number = 0; ctx = ctx; order = order; ranks = ranks }

turn : (xs : List ℕ) (i v : ℕ) → i < length xs → i < 8 → v ≡ get_or xs i 0 → set (filling xs i) i v ≡ filling xs (i + 1)
turn xs i v h g e =
    let z : 8 - i ≡ suc (8 - (i + 1)) = omega arith in
    let s : take (i + 1) xs ≡ take i xs ++ (get_or xs i 0 ∷ []) = rw add-one (take-suc xs i 0 h) in
    rw (z, s, e) (set_at (take i xs) 0 _ _ i (length-take-le i xs (omega arith)) ∙ sym (append_assoc (take i xs) _ _))

module _ (row n : ℕ) (fits : Fits row n) (most : n ≤ 8) where
  pub order_turn : (i v : ℕ) → i < n → v ≡ get_or (order_row row) i 0
      → set (filling (order_of (around_row row) n) i) i v ≡ filling (order_of (around_row row) n) (i + 1)
  order_turn i v h e = turn _ i v (omega (arith, row_length row n fits most)) (omega arith) (e ∙ order_row_is row n fits most i h)

  pub ranks_turn : (i v : ℕ) → i < n → v ≡ rank_of (around_row row) 8 i
      → set (filling (ranks_of (around_row row) n) i) i v ≡ filling (ranks_of (around_row row) n) (i + 1)
  ranks_turn i v h e =
      turn _ i v (omega (arith, length_up_to (rank_of (around_row row) n) n)) (omega arith)
      (e ∙ rank_row row n fits most i h ∙ sym (each_at 0 (rank_of (around_row row) n) n i h))

  -- all n are there
  pub filled : answer (around_row row).ctx (filling (order_of (around_row row) n) n) (filling (ranks_of (around_row row) n) n)
      ≡ answered (around_row row) n
  unfolding answered
  filled =
      rw (
        take_all n (order_of (around_row row) n) (omega (arith, row_length row n fits most)),
        take_all n (ranks_of (around_row row) n) (omega (arith, length_up_to (rank_of (around_row row) n) n)),
      ) refl
