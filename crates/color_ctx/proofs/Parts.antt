-- The steps of `color_ctx`: what a neighbour tells, and how its answers make up `context_of`. Assumes nothing.
use Rattle.std.specs.Prelude.{Option, Some, None}
use mathlib.Core.Path.{◌≡◌, refl, sym, ap, ◌∙◌}
use mathlib.Core.Bool.{Bool, true, false, cond, ◌&&◌}
use mathlib.Core.List.{List, [], ◌∷◌}
use Prim.Native.Nat.{ℕ, zero, suc, ◌+◌, ◌-◌, ◌*◌, ◌≤◌, ◌<◌, min}
use native.Mathlib.Nat.{suc-mul}
use native.Mathlib.Decide.{dec_lt}
use native.Mathlib.Omega.{arith}
use lib.Dec.{ltb}
use lib.ListN.{length, get_or}
use borrow.Author.Tests.{ltb-true, lt-ltb, le-ltb, le-leb, eq-eqb}
use Rattle.lists.specs.Counted.{all_in}
use Rattle.lists.proofs.Choice.{and_r}
use Rattle.context.specs.Map.{cell}
use Rattle.context.specs.Order.{choose, by_three, around, order_of, rank_of}
use Rattle.color_ctx.specs.Context.{used, usable, context_ok, answered, refused, context_of}
use Rattle.color_ctx.specs.Parts.{neighbour_at, one_at, three_at}
use Rattle.color_ctx.specs.declared.Context.{Context}
use Rattle.context.specs.declared.Index.{Index}

-- ---- what `neighbour_at` tells

found_by : (b : Bool) (v : ℕ) (i : Index) → cond b (Some (record { 0 = v })) None ≡ Some i → (b ≡ true) × (v ≡ i.0)
found_by true v i e = (refl, (let q : ◌≡◌ {A = Index} (record { 0 = v }) i = cc in ap (λ (j : Index). j.0) q))
found_by false v i e = absurd (cc)

none_by : (b : Bool) (v : ℕ) → ◌≡◌ {A = Option Index} (cond b (Some (record { 0 = v })) None) None → b ≡ false
none_by true v e = absurd (cc)
none_by false v e = refl

-- there is a neighbour at place p, of index v
abbrev pub Known : List ℕ → ℕ → ℕ → ℕ → Type 0
Known map n p v = (usable map n p ≡ true) × (get_or map p 0 ≡ v) × (v < n)

module _ {r : Option Index} (map : List ℕ) (n p : ℕ) (e : r ≡ neighbour_at map n p) where
  pub found_is : (i : Index) → r ≡ Some i → Known map n p i.0
  found_is i q =
      let f = found_by (usable map n p) (get_or map p 0) i (sym e ∙ q) in
      let below : get_or map p 0 < n = ltb-true _ _ (and_r (ltb p (length map)) (ltb (get_or map p 0) n) f.0) in
      (f.0, f.1, omega (arith, f.1))

  pub none_is : r ≡ None → usable map n p ≡ false
  none_is q = none_by (usable map n p) (get_or map p 0) (sym e ∙ q)

-- ---- one neighbour is as three equal ones, but for the context

-- what one neighbour answers, by what three equal ones do
abbrev pub edge : Context → Context
edge c = record { number = c.number; ctx = 0; order = c.order; ranks = c.ranks }

pub edge_answer_holds : (v n : ℕ) → edge (answered (by_three v v v) n) ≡ answered (record { ctx = 0; firsts = v ∷ [] }) n
unfolding answered by_three choose order_of rank_of
edge_answer_holds v n = rw (eq-eqb v v refl) refl

edge_by : (b : Bool) (x y : Context) → edge x ≡ y
    → edge (cond (b && (b && (b && true))) x refused) ≡ cond (b && true) y refused
edge_by true x y e = e
edge_by false x y e = refl

pub one_three : (map : List ℕ) (n p : ℕ) → edge (three_at map n p p p) ≡ one_at map n p
unfolding three_at one_at all_in
one_three map n p = edge_by (usable map n p) _ _ (edge_answer_holds (get_or map p 0) n)

-- ---- past the map's end

pub one_min : (map : List ℕ) (n p q : ℕ) → q ≡ min p (length map) → one_at map n q ≡ one_at map n p
unfolding one_at all_in
one_min map n p q e = elim (dec_lt p (length map)) [
  | yes h ↦ let f : q ≡ p = omega arith in rw f refl
  | no h ↦ rw (le-ltb q (length map) (omega arith), le-ltb p (length map) (omega arith)) refl
]

pub three_past : (map : List ℕ) (n l t d : ℕ) → length map ≤ l → three_at map n l t d ≡ refused
unfolding three_at all_in
three_past map n l t d h = rw (le-ltb l (length map) h) refl

-- ---- `context_of` by row and column

module _ (map : List ℕ) (s n : ℕ) (low : 2 ≤ n) (high : n ≤ 8) where
  pub asked : (y x : ℕ) → 0 < y + x → x < s
      → context_of map s y x n ≡ cond (all_in (usable map n) (used s y x)) (answered (around by_three map s y x) n) refused
  unfolding context_of context_ok
  asked y x h g = rw (lt-ltb 0 (y + x) h, lt-ltb x s g, le-leb 2 n low, le-leb n 8 high) refl

  pub at_top : (x : ℕ) → 0 < x → x < s → context_of map s 0 x n ≡ one_at map n (x - 1)
  unfolding used around cell one_at
  at_top zero h g = absurd (omega arith)
  at_top (suc x) h g =
      let e : suc x - 1 ≡ x = omega arith in
      let f : 0 * s + x ≡ x = omega arith in
      asked 0 (suc x) (omega arith) g ∙ rw (e, f) refl

  pub at_side : (y : ℕ) → 0 < y → 0 < s → context_of map s y 0 n ≡ one_at map n ((y - 1) * s + 0)
  unfolding used around cell one_at
  at_side zero h g = absurd (omega arith)
  at_side (suc y) h g =
      let e : suc y - 1 ≡ y = omega arith in
      let f : y * s + 0 ≡ y * s = omega arith in
      asked (suc y) 0 (omega arith) g ∙ rw (e, f) refl

  pub at_inside : (y x p : ℕ) → 0 < y → 0 < x → x < s → p ≡ y * s + (x - 1)
      → context_of map s y x n ≡ three_at map n p (p + 1 - s) (p - s)
  unfolding used around cell three_at
  at_inside zero x p h g k q = absurd (omega arith)
  at_inside (suc y) zero p h g k q = absurd (omega arith)
  at_inside (suc y) (suc x) p h g k q =
      let t : p + 1 - s ≡ y * s + suc x = omega (arith, suc-mul y s) in
      let d : p - s ≡ y * s + x = omega (arith, suc-mul y s) in
      let l : p ≡ suc y * s + x = omega arith in
      asked (suc y) (suc x) (omega arith) k ∙ rw (t, d, l) refl
