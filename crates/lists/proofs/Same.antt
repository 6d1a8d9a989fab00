-- Two lists compared. Assumes nothing.
use mathlib.Core.Path.{◌≡◌, refl, ap}
use mathlib.Core.Bool.{Bool, true, false, ◌&&◌, false≢true}
use mathlib.Core.List.{List, [], ◌∷◌}
use Prim.Native.Nat.{ℕ, suc, ◌+◌, ◌<◌, ◌≤◌}
use native.Mathlib.Numerals.{add-one}
use native.Mathlib.Omega.{arith}
use lib.Dec.{eqb}
use lib.ListN.{length, get_or, take, drop, drop_of_length-le}
use lib.Seq.{drop-cons}
use borrow.Author.Tests.{eq-eqb, eqb-true}
use Rattle.lists.specs.Same.{same_list}
use Rattle.lists.proofs.Choice.{and_l, and_r}
use Rattle.lists.proofs.Rest.{next, done}

pub same_is : (xs ys : List ℕ) → same_list xs ys ≡ true → xs ≡ ys
unfolding same_list
same_is [] [] e = refl
same_is [] (y ∷ ys) e = absurd (false≢true e)
same_is (x ∷ xs) [] e = absurd (false≢true e)
same_is (x ∷ xs) (y ∷ ys) e =
    let h : x ≡ y = eqb-true x y (and_l (eqb x y) (same_list xs ys) e) in
    let t : xs ≡ ys = same_is xs ys (and_r (eqb x y) (same_list xs ys) e) in
    cc

pub same_refl : (xs : List ℕ) → same_list xs xs ≡ true
unfolding same_list
same_refl [] = refl
same_refl (x ∷ xs) = rw (eq-eqb x x refl) (same_refl xs)

pub same_none : (xs ys : List ℕ) → (length xs ≡ length ys → ⊥) → false ≡ same_list xs ys
unfolding same_list
same_none [] [] h = absurd (h refl)
same_none [] (y ∷ ys) h = refl
same_none (x ∷ xs) [] h = refl
same_none (x ∷ xs) (y ∷ ys) h =
    let deeper : false ≡ same_list xs ys = same_none xs ys (λ e. h (ap suc e)) in
    let go : (b : Bool) → false ≡ b && same_list xs ys = elim [ true ↦ deeper | false ↦ refl ] in
    go (eqb x y)

module _ (aside ws : List ℕ) (count i : ℕ) (fits : count ≤ length aside) (all : count ≡ length ws) where
  pub same_split : i < count
      → same_list (drop i (take count aside)) (drop i ws) ≡ same_list (get_or aside i 0 ∷ drop (i + 1) (take count aside)) (get_or ws i 0 ∷ drop (i + 1) ws)
  same_split h =
      let y : drop i ws ≡ get_or ws i 0 ∷ drop (i + 1) ws = rw (drop-cons ws i 0 (omega arith), add-one) refl in
      rw (next count aside fits i h, y) refl

  pub same_end : count ≤ i → same_list (drop i (take count aside)) (drop i ws) ≡ true
  unfolding same_list
  same_end h = rw (done count aside fits i h, drop_of_length-le ws {i = i} (omega arith)) refl
