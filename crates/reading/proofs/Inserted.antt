-- Colours put among ascending ones: in any order they give the same, and ascending ones give themselves. Assumes nothing.
use mathlib.Core.Path.{◌≡◌, refl, ap, ◌∙◌}
use mathlib.Core.Bool.{Bool, true, false, cond, ◌||◌}
use mathlib.Core.List.{List, [], ◌∷◌, ◌++◌, append_assoc}
use Prim.Native.Nat.{ℕ, ◌<◌, ◌≤◌, min, max}
use native.Mathlib.Omega.{arith}
use lib.Dec.{eqb, leb}
use borrow.Author.Tests.{eqb-true, leb-true, leb-false}
use Rattle.lists.specs.Counted.{elem, ascending}
use Rattle.lists.proofs.Ascending.{Above, ascending_is}
use Rattle.emit.specs.Colors.{remove}
use Rattle.read_colors.specs.Colors.{insert}

-- of three, whichever two come first
least : (a b c : ℕ) → min a (min b c) ≡ min b (min a c)
least a b c = omega arith

top_same : (a b c : ℕ) → a ≤ c → b ≤ c → (max a (min b c) ≡ max b (min a c)) × (max b c ≡ max a c)
top_same a b c h k = (omega arith, omega arith)

top_swap : (a b c : ℕ) → c < max a b → (max a (min b c) ≡ max a c) × (max b c ≡ max b (min a c))
top_swap a b c h = (omega arith, omega arith)

pub insert_swap : (a b : ℕ) (cs : List ℕ) → insert a (insert b cs) ≡ insert b (insert a cs)
unfolding insert
insert_swap a b [] =
    let p : min a b ≡ min b a = omega arith in
    let q : max a b ≡ max b a = omega arith in
    rw (p, q) refl
insert_swap a b (c ∷ cs) =
    let deeper : insert (max a c) (insert (max b c) cs) ≡ insert (max b c) (insert (max a c) cs) = insert_swap (max a c) (max b c) cs in
    let tail : (x : Bool) → leb (max a b) c ≡ x
    → insert (max a (min b c)) (insert (max b c) cs) ≡ insert (max b (min a c)) (insert (max a c) cs) =
    elim [
      | true ↦ λ p. (
          let h : max a b ≤ c = leb-true (max a b) c p in
          let e = top_same a b c (omega arith) (omega arith) in
          rw (e.0, e.1) refl)
      | false ↦ λ p. (
          let e = top_swap a b c (leb-false (max a b) c p) in
          rw (e.0, ← e.1) deeper)
    ] in
    ap (λ (x : ℕ). x ∷ insert (max a (min b c)) (insert (max b c) cs)) (least a b c)
    ∙ ap (λ (l : List ℕ). min b (min a c) ∷ l) (tail (leb (max a b) c) refl)

-- all of a list, one after the other
unfoldable pub insert_all : List ℕ → List ℕ → List ℕ
insert_all [] cs = cs
insert_all (u ∷ us) cs = insert_all us (insert u cs)

-- one of them first
pub one_first : (e : ℕ) (us cs : List ℕ) → insert_all (remove e us) (cond (elem e us) (insert e cs) cs) ≡ insert_all us cs
unfolding insert_all remove elem
one_first e [] cs = refl
one_first e (u ∷ us) cs =
    let deeper = one_first e us (insert u cs) in
    let swap : (b : Bool) → insert u (cond b (insert e cs) cs) ≡ cond b (insert e (insert u cs)) (insert u cs) =
    elim [ true ↦ insert_swap u e cs | false ↦ refl ] in
    let go : (b : Bool) → eqb e u ≡ b
    → insert_all (cond b us (u ∷ remove e us)) (cond (b || elem e us) (insert e cs) cs) ≡ insert_all us (insert u cs) =
    elim [
      | true ↦ λ p. rw (eqb-true e u p) refl
      | false ↦ λ p. ap (insert_all (remove e us)) (swap (elem e us)) ∙ deeper
    ] in
    go (eqb e u) refl

-- ascending ones
abbrev Below : ℕ → List ℕ → Type 0
Below u [] = Unit {0}
Below u (c ∷ cs) = (c < u) × Below u cs

below_more : (u v : ℕ) (cs : List ℕ) → u < v → Below u cs → Below v (cs ++ (u ∷ []))
below_more u v [] h b = (h, tt)
below_more u v (c ∷ cs) h b = (omega (arith, b.0), below_more u v cs h b.1)

insert_end : (u : ℕ) (cs : List ℕ) → Below u cs → insert u cs ≡ cs ++ (u ∷ [])
unfolding insert
insert_end u [] b = refl
insert_end u (c ∷ cs) b =
    let h : c < u = b.0 in
    let p : min u c ≡ c = omega arith in
    let q : max u c ≡ u = omega arith in
    rw (p, q, insert_end u cs b.1) refl

in_order_inserted : (u : ℕ) (us cs : List ℕ) → Above u us → Below u cs → insert_all (u ∷ us) cs ≡ cs ++ (u ∷ us)
unfolding insert_all
in_order_inserted u [] cs a b = insert_end u cs b
in_order_inserted u (v ∷ us) cs a b =
    rw (insert_end u cs b) (in_order_inserted v us (cs ++ (u ∷ [])) a.1 (below_more u v cs a.0 b) ∙ append_assoc cs (u ∷ []) (v ∷ us))

pub insert_ascending : (cs : List ℕ) → ascending cs ≡ true → insert_all cs [] ≡ cs
unfolding insert_all
insert_ascending [] a = refl
insert_ascending (c ∷ cs) a = in_order_inserted c cs [] (ascending_is (c ∷ cs) a) tt
