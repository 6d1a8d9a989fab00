-- The cheapest of a list of candidates: it is one of them, and how it is found piece by piece. Assumes nothing.
use Prim.Native.Nat.{ℕ, zero, suc}
use mathlib.Core.Bool.{cond}
use mathlib.Core.Path.{◌≡◌, refl}
use mathlib.Core.List.{List, [], ◌∷◌, ◌++◌}
use lib.Ieee.{Float, lt}
use lib.ListN.{take}
use Rattle.lists.proofs.Choice.{cond_same, either_way}
use Rattle.cells.specs.Cell.{cheapest, first_cheapest}

-- each of a list has P
abbrev pub All : {A : Type 0} → (A → Type 0) → List A → Type 0
All P [] = Unit {0}
All P (x ∷ xs) = P x × All P xs

pub all_append : {A : Type 0} (P : A → Type 0) (xs ys : List A) → All P xs → All P ys → All P (xs ++ ys)
all_append P [] ys p q = q
all_append P (x ∷ xs) ys p q = (p.0, all_append P xs ys p.1 q)

pub all_mono : {A : Type 0} (P Q : A → Type 0) → ((a : A) → P a → Q a) → (xs : List A) → All P xs → All Q xs
all_mono P Q f [] p = tt
all_mono P Q f (x ∷ xs) p = (f x p.0, all_mono P Q f xs p.1)

pub all_take : {A : Type 0} (P : A → Type 0) (k : ℕ) (xs : List A) → All P xs → All P (take k xs)
all_take P zero xs p = tt
all_take P (suc k) [] p = tt
all_take P (suc k) (x ∷ xs) p = (p.0, all_take P k xs p.1)

module _ {A : Type 0} (total : A → Float) where
  pub cheapest_append : (a : A) (xs ys : List A) → cheapest total a (xs ++ ys) ≡ cheapest total (cheapest total a xs) ys
  unfolding cheapest
  cheapest_append a [] ys = refl
  cheapest_append a (x ∷ xs) ys = cheapest_append (cond (lt (total x) (total a)) x a) xs ys

  -- a first candidate that meets itself changes nothing
  pub cheapest_twice : (given a : A) (xs : List A) → first_cheapest total given (a ∷ xs) ≡ cheapest total a (a ∷ xs)
  unfolding first_cheapest cheapest
  cheapest_twice given a xs = rw (cond_same (lt (total a) (total a)) a) refl

-- the cheapest is one of the candidates
module _ {A : Type 0} (P : A → Type 0) (total : A → Float) where
  pub cheapest_holds : (a : A) (xs : List A) → P a → All P xs → P (cheapest total a xs)
  unfolding cheapest
  cheapest_holds a [] p q = p
  cheapest_holds a (x ∷ xs) p q = cheapest_holds (cond (lt (total x) (total a)) x a) xs (either_way P (lt (total x) (total a)) x a q.0 p) q.1

  pub first_cheapest_holds : (given : A) (xs : List A) → P given → All P xs → P (first_cheapest total given xs)
  unfolding first_cheapest
  first_cheapest_holds given [] p q = p
  first_cheapest_holds given (x ∷ xs) p q = cheapest_holds x xs q.0 q.1
