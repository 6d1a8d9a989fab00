-- The place of an index in a list, and the others: the indices below n that do not come first. Assumes nothing.
use mathlib.Core.Path.{◌≡◌, refl, sym, ap, ◌∙◌}
use mathlib.Core.Bool.{Bool, true, false, cond, not, ◌&&◌, ◌||◌, true≢false, false≢true}
use mathlib.Core.List.{List, [], ◌∷◌, ◌++◌}
use Prim.Native.Nat.{ℕ, zero, suc, ◌+◌, ◌<◌}
use native.Mathlib.Omega.{arith}
use lib.Dec.{eqb, ltb}
use lib.ListN.{length, get_or, length-append}
use borrow.Author.Tests.{eqb-true, eqb-false, eq-eqb, ne_eqb, ltb-true, ltb-false, lt-ltb, le-ltb}
use Rattle.lists.specs.Counted.{elem, bit}
use Rattle.lists.proofs.Choice.{and_l, or_false, and_false}
use Rattle.context.specs.Order.{others, place}
use Rattle.lists.proofs.Elem.{elem_append, elem_at, Distinct, distinct_append, Under}

-- ---- the place of an element

pub place_at_is : (x : ℕ) (ys : List ℕ) → elem x ys ≡ true → (get_or ys (place x ys) 0 ≡ x) × (place x ys < length ys)
unfolding elem place
place_at_is x [] t = absurd (false≢true t)
place_at_is x (y ∷ ys) t =
    let deeper : elem x ys ≡ true → (get_or ys (place x ys) 0 ≡ x) × (place x ys < length ys) = place_at_is x ys in
    let go : (b : Bool) → eqb x y ≡ b → b || elem x ys ≡ true
    → (get_or (y ∷ ys) (cond b 0 (suc (place x ys))) 0 ≡ x) × (cond b 0 (suc (place x ys)) < suc (length ys)) =
    elim [ true ↦ λ p u. (sym (eqb-true x y p), omega arith) | false ↦ λ p u. ((deeper u).0, omega (arith, (deeper u).1)) ] in
    go (eqb x y) refl t

pub place_of : (ys : List ℕ) → Distinct ys → (r : ℕ) → r < length ys → place (get_or ys r 0) ys ≡ r
unfolding place
place_of [] d r h = absurd (omega arith)
place_of (y ∷ ys) d zero h = rw (eq-eqb y y refl) refl
place_of (y ∷ ys) d (suc r) h =
    let x = get_or ys r 0 in
    let apart : x ≡ y → ⊥ = λ e. true≢false (sym (elem_at ys r (omega arith)) ∙ ap (λ (v : ℕ). elem v ys) e ∙ d.0) in
    rw (ne_eqb x y apart, place_of ys d.1 r (omega arith)) refl

-- ---- the others

one_more : (v n : ℕ) → (v ≡ n → ⊥) → ltb v (suc n) ≡ ltb v n
one_more v n h =
    let go : (b : Bool) → ltb v n ≡ b → ltb v (suc n) ≡ b = elim [
      | true ↦ λ p. (let k = ltb-true v n p in lt-ltb v (suc n) (omega arith))
      | false ↦ λ p. (let k = ltb-false v n p in le-ltb v (suc n) (omega arith))
    ] in
    go (ltb v n) refl

-- one more index: at the end, unless it is one of the first
abbrev pub added : Bool → ℕ → List ℕ
added b n = cond b [] (n ∷ [])

elem_added : (b : Bool) (v n : ℕ) → elem v (added b n) ≡ eqb v n && not b
unfolding elem
elem_added true v n = sym (and_false (eqb v n))
elem_added false v n = or_false (eqb v n) ∙ sym (and-true (eqb v n))
  where
    and-true : (a : Bool) → a && true ≡ a
    and-true true = refl
    and-true false = refl

pub elem_others : (xs : List ℕ) (n v : ℕ) → elem v (others xs n) ≡ ltb v n && not (elem v xs)
unfolding others elem
elem_others xs zero v = rw (le-ltb v 0 (omega arith)) refl
elem_others xs (suc n) v =
    let go : (b : Bool) → eqb v n ≡ b
    → (ltb v n && not (elem v xs)) || (b && not (elem n xs)) ≡ ltb v (suc n) && not (elem v xs) = elim [
      | true ↦ λ p. (let e : v ≡ n = eqb-true v n p in rw (le-ltb v n (omega arith), lt-ltb v (suc n) (omega arith), e) refl)
      | false ↦ λ p. rw (one_more v n (eqb-false v n p)) (or_false (ltb v n && not (elem v xs)))
    ] in
    elem_append v (others xs n) (added (elem n xs) n) ∙ rw (elem_others xs n v, elem_added (elem n xs) v n) (go (eqb v n) refl)

added_distinct : (b : Bool) (n : ℕ) → Distinct (added b n)
unfolding elem
added_distinct true n = tt
added_distinct false n = (refl, tt)

pub others_distinct : (xs : List ℕ) (n : ℕ) → Distinct (others xs n)
unfolding others
others_distinct xs zero = tt
others_distinct xs (suc n) =
    distinct_append (others xs n) (added (elem n xs) n) (others_distinct xs n) (added_distinct (elem n xs) n)
    (λ v p.
    let below : v < n = ltb-true v n (and_l (ltb v n) (not (elem v xs)) (sym (elem_others xs n v) ∙ p)) in
    elem_added (elem n xs) v n ∙ rw (ne_eqb v n (λ e. omega arith)) refl)

-- one more that comes first means one fewer of the others
pub fewer : (x : ℕ) (xs : List ℕ) (n : ℕ) → elem x xs ≡ false
    → length (others (x ∷ xs) n) + bit (ltb x n) ≡ length (others xs n)
unfolding others elem
fewer x xs zero e = rw (le-ltb x 0 (omega arith)) refl
fewer x xs (suc n) e =
    let us = others (x ∷ xs) n in
    let vs = others xs n in
    let go : (b : Bool) → eqb n x ≡ b
    → length (us ++ added (b || elem n xs) n) + bit (ltb x (suc n)) ≡ length (vs ++ added (elem n xs) n) = elim [
      | true ↦ λ p. (
          let q : n ≡ x = eqb-true n x p in
          let z : elem n xs ≡ false = ap (λ (k : ℕ). elem k xs) q ∙ e in
          let f = rw (le-ltb x n (omega arith)) at (fewer x xs n e) in
          rw (z, lt-ltb x (suc n) (omega arith)) (omega (arith, f, length-append us [], length-append vs (n ∷ []))))
      | false ↦ λ p. (
          let b = added (elem n xs) n in
          rw (one_more x n (λ q. eqb-false n x p (sym q)))
          (omega (arith, fewer x xs n e, length-append us b, length-append vs b)))
    ] in
    go (eqb n x) refl

pub all_length : (n : ℕ) → length (others [] n) ≡ n
unfolding others elem
all_length zero = refl
all_length (suc n) = omega (arith, all_length n, length-append (others [] n) (n ∷ []))

pub whole_length : (xs : List ℕ) (n : ℕ) → Distinct xs → Under n xs → length xs + length (others xs n) ≡ n
whole_length [] n d u = omega (arith, all_length n)
whole_length (x ∷ xs) n d u =
    omega (arith, rw (lt-ltb x n u.0) at (fewer x xs n d.0), whole_length xs n d.1 u.1)
