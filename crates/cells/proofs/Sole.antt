-- An index whose candidate is cheaper than each other index's, whatever their ranks, is chosen. Assumes nothing.
use Prim.Native.Nat.{ℕ, suc, ◌+◌, ◌≤◌, ◌<◌}
use mathlib.Core.Bool.{Bool, true, false, cond, ◌||◌, true≢false, false≢true}
use mathlib.Core.Path.{◌≡◌, refl, sym}
use mathlib.Core.List.{List, [], ◌∷◌}
use native.Mathlib.Omega.{arith}
use lib.Dec.{eqb}
use lib.Ieee.{Float, lt}
use lib.ListN.{length}
use borrow.Author.Tests.{eqb-true, eqb-false}
use Rattle.lists.specs.Counted.{elem}
use Rattle.lists.proofs.Elem.{Distinct}
use Rattle.context.specs.Order.{place}
use Rattle.cells.specs.Cell.{cheapest, first_cheapest, pick_at, ranked, chosen}
use Rattle.cells.specs.declared.Pick.{Pick}
use Rattle.cells.proofs.Cheapest.{All}

module _ (dists rates : List Float) (lambda : Float) (n b : ℕ)
    (wins : (i r q : ℕ) → i < n → (i ≡ b → ⊥) → r < 8 → q < 8
    → (lt (pick_at dists rates lambda r b).total (pick_at dists rates lambda q i).total ≡ true)
    × (lt (pick_at dists rates lambda q i).total (pick_at dists rates lambda r b).total ≡ false)) where
  abbrev pick : ℕ → ℕ → Pick
  pick q i = pick_at dists rates lambda q i

  abbrev best : Pick → List Pick → Pick
  best p ps = cheapest (λ (c : Pick). c.total) p ps

  -- it stays
  kept : (r q : ℕ) (is : List ℕ) → r < 8 → q + length is ≤ 8 → All (λ i. i < n) is → elem b is ≡ false
      → best (pick r b) (ranked dists rates lambda q is) ≡ pick r b
  unfolding ranked cheapest elem
  kept r q [] h g u e = refl
  kept r q (i ∷ is) h g u e =
      let deeper : elem b is ≡ false → best (pick r b) (ranked dists rates lambda (suc q) is) ≡ pick r b =
      kept r (suc q) is h (omega arith) u.1 in
      let go : (t : Bool) → eqb b i ≡ t → t || elem b is ≡ false
      → best (cond (lt (pick q i).total (pick r b).total) (pick q i) (pick r b)) (ranked dists rates lambda (suc q) is) ≡ pick r b =
      elim [
        | true ↦ λ p f. absurd (true≢false f)
        | false ↦ λ p f. rw (wins i r q u.0 (λ s. eqb-false b i p (sym s)) h (omega arith)).1 (deeper f)
      ] in
      go (eqb b i) refl e

  -- it wins against what stood before it
  comes : (q : ℕ) (p : Pick) (is : List ℕ) → q + length is ≤ 8 → All (λ i. i < n) is → Distinct is → elem b is ≡ true
      → ((r : ℕ) → r < 8 → lt (pick r b).total p.total ≡ true)
      → best p (ranked dists rates lambda q is) ≡ pick (q + place b is) b
  unfolding ranked cheapest elem place
  comes q p [] g u d e w = absurd (false≢true e)
  comes q p (i ∷ is) g u d e w =
      let deeper : (c : Pick) → elem b is ≡ true → ((r : ℕ) → r < 8 → lt (pick r b).total c.total ≡ true)
      → best c (ranked dists rates lambda (suc q) is) ≡ pick (suc q + place b is) b =
      λ c. comes (suc q) c is (omega arith) u.1 d.1 in
      let beats : (i ≡ b → ⊥) → (t : Bool) → (r : ℕ) → r < 8 → lt (pick r b).total (cond t (pick q i) p).total ≡ true =
      λ s. elim [ true ↦ λ r h. (wins i r q u.0 s h (omega arith)).0 | false ↦ λ r h. w r h ] in
      let go : (t : Bool) → eqb b i ≡ t → t || elem b is ≡ true
      → best (cond (lt (pick q i).total p.total) (pick q i) p) (ranked dists rates lambda (suc q) is)
      ≡ pick (q + cond t 0 (suc (place b is))) b =
      elim [
        | true ↦ λ s f.
            let same : b ≡ i = eqb-true b i s in
            let z : q + 0 ≡ q = omega arith in
            rw (z, ← same, w q (omega arith)) (kept q (suc q) is (omega arith) (omega arith) u.1 (rw same d.0))
        | false ↦ λ s f.
            let z : q + suc (place b is) ≡ suc q + place b is = omega arith in
            rw z (deeper (cond (lt (pick q i).total p.total) (pick q i) p) f (beats (λ x. eqb-false b i s (sym x)) (lt (pick q i).total p.total)))
      ] in
      go (eqb b i) refl e

  pub sole_chosen : (order : List ℕ) → length order ≤ 8 → All (λ i. i < n) order → Distinct order → elem b order ≡ true
      → chosen dists rates lambda order ≡ pick (place b order) b
  unfolding chosen first_cheapest ranked elem place
  sole_chosen [] g u d e = absurd (false≢true e)
  sole_chosen (i ∷ is) g u d e =
      let go : (t : Bool) → eqb b i ≡ t → t || elem b is ≡ true
      → best (pick 0 i) (ranked dists rates lambda 1 is) ≡ pick (cond t 0 (suc (place b is))) b =
      elim [
        | true ↦ λ s f.
            let same : b ≡ i = eqb-true b i s in
            rw (← same) (kept 0 1 is (omega arith) (omega arith) u.1 (rw same d.0))
        | false ↦ λ s f.
            let z : suc (place b is) ≡ 1 + place b is = omega arith in
            rw z (comes 1 (pick 0 i) is (omega arith) u.1 d.1 f (λ r h. (wins i r 0 u.0 (λ x. eqb-false b i s (sym x)) h (omega arith)).0))
      ] in
      go (eqb b i) refl e
