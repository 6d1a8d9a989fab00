-- The order at a cell holds each index below n once; rank and place undo each other. Assumes nothing.
use mathlib.Core.Path.{◌≡◌, refl, sym, ap, ◌∙◌}
use mathlib.Core.Bool.{Bool, true, false, not, ◌||◌}
use mathlib.Core.List.{◌++◌, append_assoc}
use Prim.Native.Nat.{ℕ, suc, ◌<◌}
use native.Mathlib.Omega.{arith}
use lib.Dec.{ltb}
use lib.ListN.{length, get_or, length-append}
use borrow.Author.Tests.{ltb-true, lt-ltb}
use Rattle.lists.specs.Counted.{elem}
use Rattle.lists.proofs.Choice.{and_l, and_false}
use Rattle.context.specs.Order.{Around, others, order_of, rank_of}
use Rattle.lists.proofs.Elem.{elem_append, elem_at, Distinct, distinct_append, Under, elem_under}
use Rattle.context.proofs.Others.{place_at_is, place_of, added, elem_others, others_distinct, whole_length}

-- what holds of the indices that come first: each once, and each below n
pub record FirstsOk (a : Around) (n : ℕ) : Type 0 where
  pub distinct : Distinct a.firsts
  pub under : Under n a.firsts

pub order_has : (a : Around) (n i : ℕ) → i < n → elem i (order_of a n) ≡ true
unfolding order_of
order_has a n i h =
    let go : (b : Bool) → b || not b ≡ true = elim [ true ↦ refl | false ↦ refl ] in
    elem_append i a.firsts (others a.firsts n) ∙ rw (elem_others a.firsts n i, lt-ltb i n h) (go (elem i a.firsts))

-- one index more: at the end, unless it came first
pub order_next : (a : Around) (n : ℕ) → order_of a (suc n) ≡ order_of a n ++ added (elem n a.firsts) n
unfolding order_of others
order_next a n = sym (append_assoc a.firsts (others a.firsts n) (added (elem n a.firsts) n))

-- the index at an index's rank
pub rank_index : (a : Around) (n i : ℕ) → i < n → get_or (order_of a n) (rank_of a n i) 0 ≡ i
unfolding rank_of
rank_index a n i h = (place_at_is i (order_of a n) (order_has a n i h)).0

pub rank_injective : (a : Around) (n i j : ℕ) → i < n → j < n → rank_of a n i ≡ rank_of a n j → i ≡ j
rank_injective a n i j h k e =
    sym (rank_index a n i h) ∙ ap (λ (r : ℕ). get_or (order_of a n) r 0) e ∙ rank_index a n j k

module _ (a : Around) (n : ℕ) (ok : FirstsOk a n) where
  pub order_length : length (order_of a n) ≡ n
  unfolding order_of
  order_length = length-append a.firsts (others a.firsts n) ∙ whole_length a.firsts n ok.distinct ok.under

  pub order_distinct : Distinct (order_of a n)
  unfolding order_of
  order_distinct =
      distinct_append a.firsts (others a.firsts n) ok.distinct (others_distinct a.firsts n)
      (λ v p. elem_others a.firsts n v ∙ rw p (and_false (ltb v n)))

  pub order_below : (r : ℕ) → r < n → get_or (order_of a n) r 0 < n
  unfolding order_of
  order_below r h =
      let v = get_or (order_of a n) r 0 in
      let t : elem v a.firsts || elem v (others a.firsts n) ≡ true =
      sym (elem_append v a.firsts (others a.firsts n)) ∙ elem_at (order_of a n) r (rw order_length h) in
      let go : (b : Bool) → elem v a.firsts ≡ b → b || elem v (others a.firsts n) ≡ true → v < n = elim [
        | true ↦ λ p t. elem_under n a.firsts ok.under v p
        | false ↦ λ p t. ltb-true v n (and_l (ltb v n) (not (elem v a.firsts)) (sym (elem_others a.firsts n v) ∙ t))
      ] in
      go (elem v a.firsts) refl t

  pub rank_below : (i : ℕ) → i < n → rank_of a n i < n
  unfolding rank_of
  rank_below i h = omega (arith, order_length, (place_at_is i (order_of a n) (order_has a n i h)).1)

  -- the rank of the index at a rank
  pub index_rank : (r : ℕ) → r < n → rank_of a n (get_or (order_of a n) r 0) ≡ r
  unfolding rank_of
  index_rank r h = place_of (order_of a n) order_distinct r (omega (arith, order_length))
