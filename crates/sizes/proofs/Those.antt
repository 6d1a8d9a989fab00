-- Those numbers of a list that pass a test, and all numbers but one.
use mathlib.Core.Path.{◌≡◌, refl, sym, ap}
use mathlib.Core.Bool.{Bool, true, false, cond, not, ◌&&◌, ◌||◌, false≢true}
use mathlib.Core.List.{List, [], ◌∷◌}
use Prim.Native.Nat.{ℕ, suc, ◌≤◌, ◌<◌}
use native.Mathlib.Omega.{arith}
use lib.Dec.{eqb}
use lib.ListN.{length}
use borrow.Author.Tests.{eqb-true, eqb-false, ne_eqb}
use Rattle.lists.specs.Counted.{elem}
use Rattle.lists.proofs.Choice.{either_way, and_false}
use Rattle.lists.proofs.Ascending.{Above, Ascending, above_lower, ascending_tail}
use Rattle.groups.proofs.Each.{Each, each_weaken}
use Rattle.sizes.specs.Order.{those}

module _ (f : ℕ → Bool) (P : ℕ → Type 0) where
  -- each passes, and keeps what held of each
  pub those_pass : (ks : List ℕ) → Each P ks → Each (λ k. (f k ≡ true) × P k) (those f ks)
  unfolding those
  those_pass [] e = tt
  those_pass (k ∷ ks) e =
      let deeper : Each (λ k. (f k ≡ true) × P k) (those f ks) = those_pass ks e.1 in
      let go : (t : Bool) → f k ≡ t → Each (λ k. (f k ≡ true) × P k) (cond t (k ∷ those f ks) (those f ks)) =
      elim [ true ↦ λ p. ((p, e.0), deeper) | false ↦ λ p. deeper ] in
      go (f k) refl

  pub each_those : (ks : List ℕ) → Each P ks → Each P (those f ks)
  each_those ks e = each_weaken (λ k. (f k ≡ true) × P k) P (those f ks) (λ k p. p.1) (those_pass ks e)

pub those_same : (f g : ℕ → Bool) → ((k : ℕ) → f k ≡ g k) → (ks : List ℕ) → those f ks ≡ those g ks
unfolding those
those_same f g e [] = refl
those_same f g e (k ∷ ks) = rw (e k, those_same f g e ks) refl

pub those_both : (f g : ℕ → Bool) (ks : List ℕ) → those g (those f ks) ≡ those (λ k. f k && g k) ks
unfolding those
those_both f g [] = refl
those_both f g (k ∷ ks) =
    let deeper : those g (those f ks) ≡ those (λ k. f k && g k) ks = those_both f g ks in
    let go : (t : Bool)
    → those g (cond t (k ∷ those f ks) (those f ks))
    ≡ cond (t && g k) (k ∷ those (λ k. f k && g k) ks) (those (λ k. f k && g k) ks) =
    elim [ true ↦ ap (λ z. cond (g k) (k ∷ z) z) deeper | false ↦ deeper ] in
    go (f k)

pub those_most : (f : ℕ → Bool) (ks : List ℕ) → length (those f ks) ≤ length ks
unfolding those
those_most f [] = omega arith
those_most f (k ∷ ks) =
    let deeper : length (those f ks) ≤ length ks = those_most f ks in
    either_way (λ z. length z ≤ suc (length ks)) (f k) (k ∷ those f ks) (those f ks) (omega arith) (omega arith)

pub elem_those : (f : ℕ → Bool) (j : ℕ) (ks : List ℕ) → elem j (those f ks) ≡ f j && elem j ks
unfolding elem those
elem_those f j [] = sym (and_false (f j))
elem_those f j (k ∷ ks) =
    let deeper : elem j (those f ks) ≡ f j && elem j ks = elem_those f j ks in
    go (eqb j k) refl (f k) refl deeper
  where
    go : (t : Bool) → eqb j k ≡ t → (p : Bool) → f k ≡ p → elem j (those f ks) ≡ f j && elem j ks
        → elem j (cond p (k ∷ those f ks) (those f ks)) ≡ f j && (t || elem j ks)
    go true i true e d = rw (i, eqb-true j k i, e) refl
    go true i false e d = rw (d, eqb-true j k i, e) refl
    go false i true e d = rw (i, d) refl
    go false i false e d = rw d refl

those_above : (f : ℕ → Bool) (c : ℕ) (ks : List ℕ) → Above c ks → Above c (those f ks)
unfolding those
those_above f c [] a = tt
those_above f c (k ∷ ks) a =
    let deeper : Above k (those f ks) = those_above f k ks a.1 in
    either_way (Above c) (f k) (k ∷ those f ks) (those f ks) (a.0, deeper) (above_lower c k (those f ks) a.0 deeper)

pub those_ascend : (f : ℕ → Bool) (ks : List ℕ) → Ascending ks → Ascending (those f ks)
unfolding those
those_ascend f [] a = tt
those_ascend f (k ∷ ks) a =
    either_way Ascending (f k) (k ∷ those f ks) (those f ks) (those_above f k ks a) (those_ascend f ks (ascending_tail k ks a))

-- all but x
abbrev pub without : ℕ → List ℕ → List ℕ
without x ks = those (λ j. not (eqb j x)) ks

pub without_fewer : (x : ℕ) (ks : List ℕ) → elem x ks ≡ true → length (without x ks) < length ks
unfolding those elem
without_fewer x [] e = absurd (false≢true e)
without_fewer x (k ∷ ks) e =
    let most : length (without x ks) ≤ length ks = those_most (λ j. not (eqb j x)) ks in
    let deeper : elem x ks ≡ true → length (without x ks) < length ks = without_fewer x ks in
    let go : (t : Bool) → eqb k x ≡ t → length (cond (not t) (k ∷ without x ks) (without x ks)) < suc (length ks) =
    elim [
      | true ↦ λ p. omega arith
      | false ↦ λ p.
          let q : eqb x k ≡ false = ne_eqb x k (λ same. eqb-false k x p (sym same)) in
          let l : length (without x ks) < length ks = deeper (rw q at e) in
          omega arith
    ] in
    go (eqb k x) refl
