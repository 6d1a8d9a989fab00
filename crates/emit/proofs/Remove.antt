-- What one cache entry takes from ascending colours, and how it is put back. Assumes nothing.
use mathlib.Core.Path.{◌≡◌, refl, ap, ◌∙◌}
use mathlib.Core.Bool.{Bool, true, false, cond, ◌||◌}
use mathlib.Core.List.{List, [], ◌∷◌}
use Prim.Native.Nat.{ℕ, suc, ◌+◌, ◌<◌, ◌≤◌}
use native.Mathlib.Omega.{arith}
use lib.Dec.{eqb, ltb}
use lib.ListN.{length}
use borrow.Author.Tests.{eqb-true, ne_eqb, lt-ltb, le-ltb}
use Rattle.lists.specs.Counted.{elem, bit, all_in, ascending}
use Rattle.lists.proofs.Ascending.{Above, Ascending, ascending_is, is_ascending, above_lower, ascending_tail, above_elem}
use Rattle.lists.proofs.Choice.{and_l, and_r, and_both}
use Rattle.emit.specs.Colors.{remove}

above_remove : (e c : ℕ) (ds : List ℕ) → Above c ds → Above c (remove e ds)
unfolding remove
above_remove e c [] a = tt
above_remove e c (d ∷ ds) a =
    let deeper : Above d (remove e ds) = above_remove e d ds a.1 in
    let go : (b : Bool) → Above c (cond b ds (d ∷ remove e ds)) =
    elim [ true ↦ above_lower c d ds a.0 a.1 | false ↦ (a.0, deeper) ] in
    go (eqb e d)

pub ascending_remove : (e : ℕ) (cs : List ℕ) → Ascending cs → Ascending (remove e cs)
unfolding remove
ascending_remove e [] a = tt
ascending_remove e (c ∷ cs) a = go (eqb e c)
  where
    go : (b : Bool) → Ascending (cond b cs (c ∷ remove e cs))
    go true = ascending_tail c cs a
    go false = above_remove e c cs a

pub ascends_remove : (e : ℕ) (cs : List ℕ) → ascending cs ≡ true → ascending (remove e cs) ≡ true
ascends_remove e cs a = is_ascending (remove e cs) (ascending_remove e cs (ascending_is cs a))

pub all_in_remove : (f : ℕ → Bool) (e : ℕ) (cs : List ℕ) → all_in f cs ≡ true → all_in f (remove e cs) ≡ true
unfolding all_in remove
all_in_remove f e [] t = refl
all_in_remove f e (c ∷ cs) t =
    let rest : all_in f cs ≡ true = and_r (f c) (all_in f cs) t in
    let deeper : all_in f (remove e cs) ≡ true = all_in_remove f e cs rest in
    let go : (b : Bool) → all_in f (cond b cs (c ∷ remove e cs)) ≡ true =
    elim [ true ↦ rest | false ↦ and_both (f c) (all_in f (remove e cs)) (and_l (f c) (all_in f cs) t) deeper ] in
    go (eqb e c)

pub length_remove : (e : ℕ) (cs : List ℕ) → length (remove e cs) + bit (elem e cs) ≡ length cs
unfolding remove elem
length_remove e [] = refl
length_remove e (c ∷ cs) =
    let deeper : length (remove e cs) + bit (elem e cs) ≡ length cs = length_remove e cs in
    let go : (b : Bool) → length (cond b cs (c ∷ remove e cs)) + bit (b || elem e cs) ≡ suc (length cs) =
    elim [ true ↦ omega arith | false ↦ omega arith ] in
    go (eqb e c)

pub elem_shorter : (e : ℕ) (cs : List ℕ) → ltb (length (remove e cs)) (length cs) ≡ elem e cs
elem_shorter e cs =
    let go : (b : Bool) → length (remove e cs) + bit b ≡ length cs → ltb (length (remove e cs)) (length cs) ≡ b =
    elim [
      | true ↦ λ h. lt-ltb (length (remove e cs)) (length cs) (omega arith)
      | false ↦ λ h. le-ltb (length (remove e cs)) (length cs) (omega arith)
    ] in
    go (elem e cs) (length_remove e cs)

-- all e left out: of ascending colours no more than the first
unfoldable pub without : ℕ → List ℕ → List ℕ
without e [] = []
without e (c ∷ cs) = cond (eqb e c) (without e cs) (c ∷ without e cs)

without_above : (e c : ℕ) (cs : List ℕ) → e ≤ c → Above c cs → without e cs ≡ cs
unfolding without
without_above e c [] h a = refl
without_above e c (d ∷ ds) h a =
    let l : c < d = a.0 in
    rw (ne_eqb e d (λ q. omega arith), without_above e d ds (omega arith) a.1)

pub without_remove : (e : ℕ) (cs : List ℕ) → Ascending cs → without e cs ≡ remove e cs
unfolding without remove
without_remove e [] a = refl
without_remove e (c ∷ cs) a =
    let deeper : without e cs ≡ remove e cs = without_remove e cs (ascending_tail c cs a) in
    let go : (b : Bool) → eqb e c ≡ b → cond b (without e cs) (c ∷ without e cs) ≡ cond b cs (c ∷ remove e cs) =
    elim [
      | true ↦ λ p. without_above e c cs (omega (arith, eqb-true e c p)) a
      | false ↦ λ p. ap (λ (l : List ℕ). c ∷ l) deeper
    ] in
    go (eqb e c) refl

-- into an ascending list
unfoldable pub insert : ℕ → List ℕ → List ℕ
insert e [] = e ∷ []
insert e (c ∷ cs) = cond (ltb e c) (e ∷ c ∷ cs) (c ∷ insert e cs)

abbrev put_back : Bool → ℕ → List ℕ → List ℕ
put_back b e cs = cond b (insert e cs) cs

insert_front : (c : ℕ) (cs : List ℕ) → Above c cs → insert c cs ≡ c ∷ cs
unfolding insert
insert_front c [] a = refl
insert_front c (d ∷ ds) a = rw (lt-ltb c d a.0)

put_cons : (b : Bool) (e c : ℕ) (cs : List ℕ) → (b ≡ true → c < e) → put_back b e (c ∷ cs) ≡ c ∷ put_back b e cs
unfolding insert
put_cons true e c cs h = let l : c < e = h refl in rw (le-ltb e c (omega arith))
put_cons false e c cs h = refl

-- what an entry takes can be put back
pub restore : (e : ℕ) (cs : List ℕ) → Ascending cs → cond (elem e cs) (insert e (remove e cs)) (remove e cs) ≡ cs
unfolding elem remove
restore e [] a = refl
restore e (c ∷ cs) a =
    let deeper : put_back (elem e cs) e (remove e cs) ≡ cs = restore e cs (ascending_tail c cs a) in
    let go : (b : Bool) → eqb e c ≡ b → put_back (b || elem e cs) e (cond b cs (c ∷ remove e cs)) ≡ c ∷ cs =
    elim [
      | true ↦ λ p. rw (eqb-true e c p) (insert_front c cs a)
      | false ↦ λ p.
          put_cons (elem e cs) e c (remove e cs) (above_elem e c cs a) ∙ ap (λ (l : List ℕ). c ∷ l) deeper
    ] in
    go (eqb e c) refl
