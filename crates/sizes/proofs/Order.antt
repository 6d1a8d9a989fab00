-- The order of the sizes: what it depends on, what is in it, and its first with the others after it.
use Rattle.std.proofs.Common.{None, Some}
use mathlib.Core.Path.{◌≡◌, refl, sym, ap, ◌∙◌}
use mathlib.Core.Bool.{true, cond, not, ◌||◌}
use mathlib.Core.List.{List, [], ◌∷◌}
use Prim.Native.Nat.{ℕ, zero, suc, ◌≤◌}
use native.Mathlib.Omega.{arith}
use lib.Dec.{eqb}
use lib.ListN.{length}
use lib.Ieee.{Float, lt}
use borrow.Author.Tests.{eq-eqb}
use Rattle.lists.specs.Counted.{elem}
use Rattle.lists.proofs.Choice.{either_way, or_true}
use Rattle.groups.proofs.Each.{Each, each_weaken}
use Rattle.cells.specs.Cell.{cheapest}
use Rattle.sizes.specs.Order.{next_in, ordered, in_order}
use Rattle.sizes.proofs.Those.{each_those, without, without_fewer}

-- ---- the cheapest
module _ (P : ℕ → Type 0) where
  -- it is one of those compared: what holds of each holds of it
  pub cheapest_each : (f : ℕ → Float) (a : ℕ) (bs : List ℕ) → P a → Each P bs → P (cheapest f a bs)
  unfolding cheapest
  cheapest_each f a [] p e = p
  cheapest_each f a (b ∷ bs) p e =
      cheapest_each f (cond (lt (f b) (f a)) b a) bs (either_way P (lt (f b) (f a)) b a e.0 p) e.1

  module _ (f g : ℕ → Float) (agree : (k : ℕ) → P k → f k ≡ g k) where
    pub cheapest_same : (a : ℕ) (bs : List ℕ) → P a → Each P bs → cheapest f a bs ≡ cheapest g a bs
    unfolding cheapest
    cheapest_same a [] p e = refl
    cheapest_same a (b ∷ bs) p e =
        rw (agree a p, agree b e.0)
        (cheapest_same (cond (lt (g b) (g a)) b a) bs (either_way P (lt (g b) (g a)) b a e.0 p) e.1)

    pub ordered_same : (m : ℕ) (ks : List ℕ) → Each P ks → ordered f m ks ≡ ordered g m ks
    unfolding ordered
    ordered_same zero ks e = refl
    ordered_same (suc m) [] e = refl
    ordered_same (suc m) (k ∷ ks) e =
        let first = cheapest g k ks in
        ap (λ x. x ∷ ordered f m (without x (k ∷ ks))) (cheapest_same k ks e.0 e.1)
        ∙ ap (λ z. first ∷ z)
        (ordered_same m (without first (k ∷ ks)) (each_those (λ j. not (eqb j first)) P (k ∷ ks) e))

  pub ordered_each : (f : ℕ → Float) (m : ℕ) (ks : List ℕ) → Each P ks → Each P (ordered f m ks)
  unfolding ordered
  ordered_each f zero ks e = tt
  ordered_each f (suc m) [] e = tt
  ordered_each f (suc m) (k ∷ ks) e =
      let first = cheapest f k ks in (
        cheapest_each f k ks e.0 e.1,
        ordered_each f m (without first (k ∷ ks)) (each_those (λ j. not (eqb j first)) P (k ∷ ks) e),
      )

  -- so is the first of them, where there is one
  pub first_each : (f : ℕ → Float) (ks : List ℕ) (first : ℕ) → Each P ks → Some first ≡ next_in f ks → P first
  first_each f [] first e is = cc
  first_each f (k ∷ ks) first e is =
      let same : first ≡ cheapest f k ks = cc in rw same (cheapest_each f k ks e.0 e.1)

pub each_elem : (ks : List ℕ) → Each (λ x. elem x ks ≡ true) ks
unfolding elem
each_elem [] = tt
each_elem (k ∷ ks) = (
  rw (eq-eqb k k refl) refl,
  each_weaken (λ x. elem x ks ≡ true) (λ x. eqb x k || elem x ks ≡ true) ks (λ x p. rw p (or_true (eqb x k)))
      (each_elem ks),
)

pub cheapest_in : (f : ℕ → Float) (k : ℕ) (ks : List ℕ) → elem (cheapest f k ks) (k ∷ ks) ≡ true
cheapest_in f k ks =
    let all = each_elem (k ∷ ks) in
    cheapest_each (λ x. elem x (k ∷ ks) ≡ true) f k ks all.0 all.1

-- ---- the order, where it holds all of the sizes
module _ (f : ℕ → Float) where
  ordered_none : (m : ℕ) → ordered f m [] ≡ []
  unfolding ordered
  ordered_none zero = refl
  ordered_none (suc m) = refl

  -- any count that is no less than the length gives all of them
  ordered_all : (m n : ℕ) (ks : List ℕ) → length ks ≤ m → length ks ≤ n → ordered f m ks ≡ ordered f n ks
  unfolding ordered
  ordered_all zero n [] a b = sym (ordered_none n)
  ordered_all zero n (k ∷ ks) a b = absurd (omega arith)
  ordered_all (suc m) n [] a b = sym (ordered_none n)
  ordered_all (suc m) zero (k ∷ ks) a b = absurd (omega arith)
  ordered_all (suc m) (suc n) (k ∷ ks) a b =
      let first = cheapest f k ks in
      let l = without_fewer first (k ∷ ks) (cheapest_in f k ks) in
      ap (λ z. first ∷ z) (ordered_all m n (without first (k ∷ ks)) (omega arith) (omega arith))

  -- no first: no sizes
  pub no_first : (ks : List ℕ) → None ≡ next_in f ks → ks ≡ []
  no_first [] is = refl
  no_first (k ∷ ks) is = cc

  -- else it is the first in the order, and the others follow likewise
  pub first_then : (ks : List ℕ) (first : ℕ) → Some first ≡ next_in f ks
      → in_order f ks ≡ first ∷ in_order f (without first ks)
  unfolding ordered
  first_then [] first is = cc
  first_then (k ∷ ks) first is =
      let same : first ≡ cheapest f k ks = cc in
      let others = without (cheapest f k ks) (k ∷ ks) in
      let fewer = without_fewer (cheapest f k ks) (k ∷ ks) (cheapest_in f k ks) in
      rw same
      (ap (λ (js : List ℕ). cheapest f k ks ∷ js) (ordered_all (length ks) (length others) others (omega arith) (omega arith)))
