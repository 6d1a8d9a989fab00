-- The last c whose threshold is at least p, by counting. Assumes nothing.
use mathlib.Core.Path.{◌≡◌, refl, sym, ap, ◌∙◌}
use mathlib.Core.Bool.{Bool, true, false, cond, true≢false}
use mathlib.Core.Logic.{◌⊎◌, ⊎_elim}
use Prim.Native.Nat.{ℕ, suc, ◌+◌, ◌≤◌, ◌<◌}
use native.Mathlib.Omega.{arith}
use native.Mathlib.Numerals.{add-one}
use lib.Dec.{leb}
use lib.ListN.{get_or, drop}
use Rattle.std.proofs.lemmas.List.{get_or-drop}
use borrow.Author.Tests.{le-leb, lt-leb}
use Rattle.lists.proofs.Choice.{cond_same}
use Rattle.costs.specs.Cost.{meets, last}
use Rattle.costs.specs.Thresholds.{threshold_table}
use Rattle.costs.proofs.Thresholds.{meets_by}
use Rattle.costs.proofs.Largest.{meets_falls}

pub begins : (p : ℕ) → 0 ≡ last (meets p) 1
unfolding last
begins p = sym (cond_same (meets p 0) 0)

-- where i meets, the last before it is the one before it
last_before : (p i : ℕ) → meets p (suc i) ≡ true → last (meets p) (suc i) ≡ i
unfolding last
last_before p i e = go (meets p i) refl
  where
    go : (b : Bool) → meets p i ≡ b → cond b i (last (meets p) i) ≡ i
    go true t = refl
    go false t = absurd (true≢false (sym e ∙ meets_falls p i (suc i) (omega arith) t))

last_next : (p i c : ℕ) → last (meets p) (suc i) ≡ c → (b : Bool) → meets p (suc i) ≡ b → cond b (c + 1) c ≡ last (meets p) (suc (suc i))
unfolding last
last_next p i c e true t = rw t (omega (arith, sym e ∙ last_before p i t))
last_next p i c e false t = rw t (sym e)

-- one more threshold, of those behind the first
pub turn : (p c i next : ℕ) → i < 240 → c ≡ last (meets p) (i + 1)
    → ((p ≤ get_or (drop 1 threshold_table) i 0) × (next ≡ c + 1)) ⊎ ((get_or (drop 1 threshold_table) i 0 < p) × (next ≡ c))
    → next ≡ last (meets p) (i + 1 + 1)
turn p c i next h e w =
    let place : 1 + i ≡ suc i = omega arith in
    let one : get_or (drop 1 threshold_table) i 0 ≡ get_or threshold_table (suc i) 0 =
    get_or-drop 1 threshold_table i 0 ∙ ap (λ k. get_or threshold_table k 0) place in
    let met : meets p (suc i) ≡ leb p (get_or (drop 1 threshold_table) i 0) = meets_by p (suc i) (omega arith) ∙ rw one refl in
    let before : last (meets p) (suc i) ≡ c = sym (rw add-one at e) in
    rw (add-one (i + 1), add-one i)
    (⊎_elim
    (λ u. u.1 ∙ last_next p i c before true (met ∙ le-leb _ _ u.0))
    (λ u. u.1 ∙ last_next p i c before false (met ∙ lt-leb _ _ u.0))
    w)
