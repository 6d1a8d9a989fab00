-- The three answers of `list`: a fault, too small a room, the list. Assumes nothing.
use mathlib.Core.Path.{◌≡◌, refl, sym, ap, ◌∙◌}
use mathlib.Core.Bool.{Bool, true, false, cond}
use mathlib.Core.List.{List}
use Prim.Native.Nat.{ℕ, ◌≤◌, ◌<◌}
use native.Mathlib.Omega.{arith}
use lib.Dec.{eqb, leb}
use lib.ListN.{length}
use borrow.Author.Tests.{eqb-true, eqb-false, ne_eqb, leb-true, leb-false, le-leb, lt-leb}
use Rattle.lists.specs.Written.{front, written}
use Rattle.lists.proofs.Written.{written_front}
use Rattle.literals.specs.Words.{raw_width_of}
use Rattle.accept.specs.Palette.{Palette}
use Rattle.accept.specs.Accepted.{refusal}
use Rattle.accept.proofs.Accepted.{accepted_of_zero}
use Rattle.listing.specs.declared.Listed.{Listed}
use Rattle.listing.specs.Listing.{call_list, list_number, Lists, refused_by}
use Rattle.listing.proofs.Length.{list_few}

module _ (w h bd : ℕ) (cache : List ℕ) (p : Palette) (before : List ℕ) where
  abbrev list : List ℕ
  list = call_list w h bd cache p

  pub faulty : (k : ℕ) → k ≡ refusal w h bd (length cache) p → (k ≡ 0 → ⊥) → Lists w h bd cache p before before (refused_by k)
  unfolding list_number
  faulty k e f =
      record {
        number = rw (← e) (simp (ne_eqb k 0 f));
        count = simp (ne_eqb k 0 f);
        width = simp (ne_eqb k 0 f);
        words = simp (ne_eqb k 0 f);
      }

  short : refusal w h bd (length cache) p ≡ 0 → length before < length list → (after : List ℕ) → after ≡ before
      → Lists w h bd cache p before after (refused_by 16)
  unfolding list_number
  short e f after a =
      record { number = rw e (simp (lt-leb (length list) (length before) f)); count = refl; width = refl; words = a }

  whole : refusal w h bd (length cache) p ≡ 0 → length list ≤ length before → (after : List ℕ) (r : Listed)
      → after ≡ front list before → r.number ≡ 0 → r.count ≡ length list → r.raw_width ≡ raw_width_of list
      → Lists w h bd cache p before after r
  unfolding list_number
  whole e f after r a z c raw =
      record {
        number = z ∙ sym (rw e (simp (le-leb (length list) (length before) f)));
        count = rw z c;
        width = rw z raw;
        words = rw z a;
      }

  -- a list that was made where the room is enough
  pub made_there : refusal w h bd (length cache) p ≡ 0 → length list ≤ length before → (after : List ℕ) (r : Listed)
      → after ≡ written before 0 list → r.number ≡ 0 → r.count ≡ length list → r.raw_width ≡ raw_width_of list
      → Lists w h bd cache p before after r
  made_there e room after r a = whole e room after r (a ∙ written_front before list room)

  -- a list that was made aside, as `deliver` answers for it
  pub delivered : refusal w h bd (length cache) p ≡ 0 → (made : Listed)
      → made.number ≡ 0 → made.count ≡ length list → made.raw_width ≡ raw_width_of list
      → (words : List ℕ) → words ≡ list → (after : List ℕ) (k : ℕ)
      → k ≡ cond (leb (length words) (length before)) 0 16
      → after ≡ cond (leb (length words) (length before)) (written before 0 words) before
      → Lists w h bd cache p before after (cond (eqb k 0) made (refused_by k))
  delivered e made z c raw words is after = go (leb (length words) (length before)) refl
    where
      go : (b : Bool) → leb (length words) (length before) ≡ b → (k : ℕ) → k ≡ cond b 0 16
          → after ≡ cond b (written before 0 words) before → Lists w h bd cache p before after (cond (eqb k 0) made (refused_by k))
      go true fits k t a =
          let room : length list ≤ length before = omega (arith, leb-true (length words) (length before) fits, ap length is) in
          rw t (whole e room after made (a ∙ ap (written before 0) is ∙ written_front before list room) z c raw)
      go false fits k t a =
          rw t (short e (omega (arith, leb-false (length words) (length before) fits, ap length is)) after a)

  -- a count is never above the longest list
  pub count_few : (after : List ℕ) (r : Listed) → Lists w h bd cache p before after r → r.count ≤ 4234
  unfolding list_number
  count_few after r l =
      let fault = refusal w h bd (length cache) p in
      let accepted : fault ≡ 0 → length list ≤ 4234 = λ e. list_few w h bd cache p (accepted_of_zero w h bd cache p e) in
      let told : (x y : Bool) → eqb fault 0 ≡ x → r.number ≡ cond x (cond y 0 16) fault → r.number ≡ 0 → length list ≤ 4234 =
      elim [
        | true ↦ λ y e n z. accepted (eqb-true fault 0 e)
        | false ↦ λ y e n z. absurd (eqb-false fault 0 e (sym n ∙ z))
      ] in
      let go : (b : Bool) → eqb r.number 0 ≡ b → r.count ≡ cond b (length list) 0 → r.count ≤ 4234 =
      elim [
        | true ↦ λ e c. omega (arith, told (eqb fault 0) (leb (length list) (length before)) refl l.number (eqb-true r.number 0 e))
        | false ↦ λ e c. omega arith
      ] in
      go (eqb r.number 0) refl l.count
