-- What holds of each number of a list, and strictly ascending lists that grow at the end.
use mathlib.Core.Path.{◌≡◌, refl, sym, subst}
use mathlib.Core.Bool.{Bool, true, false, ◌||◌, false≢true}
use mathlib.Core.List.{List, [], ◌∷◌, ◌++◌}
use Prim.Native.Nat.{ℕ, zero, suc, ◌<◌}
use native.Mathlib.Omega.{arith}
use lib.Dec.{eqb}
use lib.ListN.{length, get_or}
use borrow.Author.Tests.{eqb-true}
use Rattle.lists.specs.Counted.{all_in, elem}
use Rattle.lists.proofs.Choice.{and_both}
use Rattle.lists.proofs.Ascending.{Above, Ascending}

abbrev pub Each : (ℕ → Type 0) → List ℕ → Type 0
Each P [] = Unit {0}
Each P (x ∷ xs) = P x × Each P xs

pub each_at : (P : ℕ → Type 0) (xs : List ℕ) → Each P xs → (i : ℕ) → i < length xs → P (get_or xs i 0)
each_at P [] e i h = absurd (omega arith)
each_at P (x ∷ xs) e zero h = e.0
each_at P (x ∷ xs) e (suc i) h = each_at P xs e.1 i (omega arith)

pub each_weaken : (P Q : ℕ → Type 0) (xs : List ℕ) → ((x : ℕ) → P x → Q x) → Each P xs → Each Q xs
each_weaken P Q [] f e = tt
each_weaken P Q (x ∷ xs) f e = (f x e.0, each_weaken P Q xs f e.1)

pub each_snoc : (P : ℕ → Type 0) (xs : List ℕ) (y : ℕ) → Each P xs → P y → Each P (xs ++ (y ∷ []))
each_snoc P [] y e p = (p, tt)
each_snoc P (x ∷ xs) y e p = (e.0, each_snoc P xs y e.1 p)

pub each_both : (P Q : ℕ → Type 0) (ks : List ℕ) → Each P ks → Each Q ks → Each (λ k. P k × Q k) ks
each_both P Q [] p q = tt
each_both P Q (k ∷ ks) p q = ((p.0, q.0), each_both P Q ks p.1 q.1)

pub each_in : (P : ℕ → Type 0) (ks : List ℕ) → Each P ks → (j : ℕ) → elem j ks ≡ true → P j
unfolding elem
each_in P [] e j t = absurd (false≢true t)
each_in P (k ∷ ks) e j t =
    let deeper : elem j ks ≡ true → P j = each_in P ks e.1 j in
    let go : (b : Bool) → eqb j k ≡ b → b || elem j ks ≡ true → P j =
    elim [ true ↦ λ p t. subst P (sym (eqb-true j k p)) e.0 | false ↦ λ p t. deeper t ] in
    go (eqb j k) refl t

-- the same as a test
pub each_all : (f : ℕ → Bool) (xs : List ℕ) → Each (λ x. f x ≡ true) xs → all_in f xs ≡ true
unfolding all_in
each_all f [] e = refl
each_all f (x ∷ xs) e = and_both (f x) (all_in f xs) e.0 (each_all f xs e.1)

-- ---- ascending lists
above_snoc : (c : ℕ) (xs : List ℕ) (y : ℕ) → Above c xs → c < y → Each (λ x. x < y) xs → Above c (xs ++ (y ∷ []))
above_snoc c [] y a h e = (h, tt)
above_snoc c (x ∷ xs) y a h e = (a.0, above_snoc x xs y a.1 e.0 e.1)

pub ascending_snoc : (xs : List ℕ) (y : ℕ) → Ascending xs → Each (λ x. x < y) xs → Ascending (xs ++ (y ∷ []))
ascending_snoc [] y a e = tt
ascending_snoc (x ∷ xs) y a e = above_snoc x xs y a e.0 e.1
