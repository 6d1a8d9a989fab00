-- Whether an element stands in a list, and lists that have no element twice. Assumes nothing.
use mathlib.Core.Path.{◌≡◌, refl, ◌∙◌}
use mathlib.Core.Bool.{Bool, true, false, ◌||◌, false≢true}
use mathlib.Core.List.{List, [], ◌∷◌, ◌++◌}
use Prim.Native.Nat.{ℕ, zero, suc, ◌<◌}
use native.Mathlib.Omega.{arith}
use lib.Dec.{eqb}
use lib.ListN.{length, get_or}
use borrow.Author.Tests.{eqb-true, eq-eqb}
use Rattle.lists.specs.Counted.{elem}
use Rattle.lists.proofs.Choice.{or_true}

or_assoc : (a b c : Bool) → a || (b || c) ≡ (a || b) || c
or_assoc true b c = refl
or_assoc false b c = refl

pub elem_append : (x : ℕ) (us vs : List ℕ) → elem x (us ++ vs) ≡ elem x us || elem x vs
unfolding elem
elem_append x [] vs = refl
elem_append x (u ∷ us) vs = rw (elem_append x us vs) (or_assoc (eqb x u) (elem x us) (elem x vs))

pub elem_at : (ys : List ℕ) (r : ℕ) → r < length ys → elem (get_or ys r 0) ys ≡ true
unfolding elem
elem_at [] r h = absurd (omega arith)
elem_at (y ∷ ys) zero h = rw (eq-eqb y y refl) refl
elem_at (y ∷ ys) (suc r) h = rw (elem_at ys r (omega arith)) (or_true (eqb (get_or ys r 0) y))

-- no element twice
abbrev pub Distinct : List ℕ → Type 0
Distinct [] = Unit {0}
Distinct (x ∷ xs) = (elem x xs ≡ false) × Distinct xs

pub distinct_append : (xs ys : List ℕ) → Distinct xs → Distinct ys → ((v : ℕ) → elem v xs ≡ true → elem v ys ≡ false)
    → Distinct (xs ++ ys)
unfolding elem
distinct_append [] ys d e f = e
distinct_append (x ∷ xs) ys d e f = (
  elem_append x xs ys ∙ rw d.0 (f x (rw (eq-eqb x x refl) refl)),
  distinct_append xs ys d.1 e (λ v p. f v (rw p (or_true (eqb v x)))),
)

-- each below n
abbrev pub Under : ℕ → List ℕ → Type 0
Under n [] = Unit {0}
Under n (x ∷ xs) = (x < n) × Under n xs

pub elem_under : (n : ℕ) (xs : List ℕ) → Under n xs → (v : ℕ) → elem v xs ≡ true → v < n
unfolding elem
elem_under n [] u v t = absurd (false≢true t)
elem_under n (x ∷ xs) u v t =
    let deeper : elem v xs ≡ true → v < n = elem_under n xs u.1 v in
    let go : (b : Bool) → eqb v x ≡ b → b || elem v xs ≡ true → v < n =
    elim [ true ↦ λ p t. omega (arith, eqb-true v x p, u.0) | false ↦ λ p t. deeper t ] in
    go (eqb v x) refl t
