-- Each answer's ranks and order undo each other; an answer of 18 holds zeros. Assumes nothing.
use mathlib.Core.Path.{◌≡◌, refl, ◌∙◌}
use mathlib.Core.Bool.{Bool, true, false, cond}
use mathlib.Core.List.{List, [], ◌∷◌, ◌++◌}
use Prim.Native.Nat.{ℕ, zero, suc, ◌+◌, ◌-◌, ◌*◌, ◌<◌}
use native.Mathlib.Omega.{arith}
use lib.Dec.{ltb}
use lib.ListN.{length, get_or, replicate, get_or-eq_default}
use borrow.Author.Tests.{ltb-true}
use Rattle.lists.specs.Counted.{all_in, elem}
use Rattle.lists.proofs.Choice.{and_r, and_false}
use Rattle.lists.proofs.Counted.{all_in_at, length_up_to}
use Rattle.lists.proofs.Each.{each_at}
use Rattle.lists.proofs.Zeros.{zeros_below}
use Rattle.context.specs.Map.{cell}
use Rattle.context.specs.Order.{Around, by_three, around, order_of, rank_of}
use Rattle.context.proofs.Order.{FirstsOk, order_length, order_below, rank_below, rank_index, index_rank}
use Rattle.context.proofs.Around.{three_ok}
use Rattle.color_ctx.specs.Context.{used, usable, context_ok, ranks_of, answered, refused, context_of, Undo, Answers}

-- zeros behind a list change no place
padded : (xs : List ℕ) (m k : ℕ) → get_or (xs ++ replicate m 0) k 0 ≡ get_or xs k 0
padded [] m k = omega (arith, zeros_below m 1 k (omega arith))
padded (x ∷ xs) m zero = refl
padded (x ∷ xs) m (suc k) = padded xs m k

module _ (a : Around) (n : ℕ) (ok : FirstsOk a n) where
  index_at : (r : ℕ) → get_or (answered a n).order r 0 ≡ get_or (order_of a n) r 0
  unfolding answered
  index_at r = padded (order_of a n) (8 - n) r

  rank_at : (i : ℕ) → i < n → get_or (answered a n).ranks i 0 ≡ rank_of a n i
  unfolding answered
  rank_at i h = padded (ranks_of a n) (8 - n) i ∙ each_at 0 (rank_of a n) n i h

  pub undo : Undo n (answered a n).order (answered a n).ranks
  unfolding answered
  undo = record {
    index = λ i h. rw (rank_at i h) (rank_below a n ok i h, index_at (rank_of a n i) ∙ rank_index a n i h);
    rank = λ r h. rw (index_at r) (order_below a n ok r h, rank_at _ (order_below a n ok r h) ∙ index_rank a n ok r h);
    zeros = λ k h. (
      padded (order_of a n) (8 - n) k ∙ get_or-eq_default (order_of a n) 0 (omega (arith, order_length a n ok)),
      padded (ranks_of a n) (8 - n) k ∙ get_or-eq_default (ranks_of a n) 0 (omega (arith, length_up_to (rank_of a n) n)),
    );
  }

-- ---- what is accepted has neighbours below n

module _ (map : List ℕ) (n : ℕ) where
  low : (ps : List ℕ) → all_in (usable map n) ps ≡ true → (i : ℕ) → i < length ps → get_or map (get_or ps i 0) 0 < n
  low ps e i h =
      let p = get_or ps i 0 in
      ltb-true _ _ (and_r (ltb p (length map)) (ltb (get_or map p 0) n) (all_in_at (usable map n) ps e i h))

  used_ok : (s y x : ℕ) → all_in (usable map n) (used s y x) ≡ true → FirstsOk (around by_three map s y x) n
  unfolding used around cell elem
  used_ok s zero zero e = record { distinct = tt; under = tt }
  used_ok s zero (suc x) e =
      let z : 0 * s + x ≡ x = omega arith in
      record { distinct = (refl, tt); under = (rw z (low _ e 0 (omega arith)), tt) }
  used_ok s (suc y) zero e =
      let z : y * s + 0 ≡ y * s = omega arith in
      record { distinct = (refl, tt); under = (rw z (low _ e 0 (omega arith)), tt) }
  used_ok s (suc y) (suc x) e = three_ok n _ _ _ (low _ e 0 (omega arith)) (low _ e 1 (omega arith)) (low _ e 2 (omega arith))

  accepted : (s y x : ℕ) → context_ok map s y x n ≡ true → all_in (usable map n) (used s y x) ≡ true
  unfolding context_ok
  accepted s y x e = go (all_in (usable map n) (used s y x)) refl
    where
      go : (b : Bool) → all_in (usable map n) (used s y x) ≡ b → b ≡ true
      go true p = refl
      go false p = simp (p, and_false) at e

  pub context_answers : (s y x : ℕ) → Answers n (context_of map s y x n)
  unfolding context_of answered
  context_answers s y x = go (context_ok map s y x n) refl
    where
      go : (b : Bool) → context_ok map s y x n ≡ b → Answers n (cond b (answered (around by_three map s y x) n) refused)
      go true e = record {
        undo = λ z. undo (around by_three map s y x) n (used_ok s y x (accepted s y x e));
        zeros = λ f. absurd (f refl);
      }
      go false e = record { undo = λ z. absurd (omega arith); zeros = λ f. refl }
