-- The law of `in_order`: where no lb is infinite or NaN, it has every size once, by ascending lb, ties by fewer colours.
use mathlib.Core.Path.{subst, ◌≡◌, refl, sym, ap, ◌∙◌}
use mathlib.Core.Bool.{Bool, true, false, not, ◌&&◌, ◌||◌, false≢true}
use mathlib.Core.Logic.{inl, inr}
use mathlib.Core.List.{List, [], ◌∷◌}
use Prim.Native.Nat.{ℕ, zero, suc, ◌≤◌}
use native.Mathlib.Nat.{le_refl}
use native.Mathlib.Omega.{arith}
use lib.Dec.{eqb, leb}
use lib.ListN.{length}
use lib.Ieee.{Float}
use borrow.Author.Tests.{eqb-true}
use Rattle.lists.specs.Counted.{elem, above, ascending}
use Rattle.lists.proofs.Ascending.{Ascending, ascending_is}
use Rattle.ieee.proofs.Compare.{Finite, lt_itself}
use Rattle.groups.proofs.Each.{Each, each_weaken, each_both, each_in}
use Rattle.cells.specs.Cell.{cheapest}
use Rattle.sizes.specs.Order.{all_sizes, sizes_to, ordered, in_order, Before, Sorted, Sorts}
use Rattle.sizes.proofs.Those.{those_pass, each_those, elem_those, those_ascend, without, without_fewer}
use Rattle.sizes.proofs.Order.{ordered_each, cheapest_each, cheapest_in}
use Rattle.sizes.proofs.Levels.{SizeTo, sizes_each}
use Rattle.sizes.proofs.Leads.{Leads, cheapest_leads, before}

module _ (lb : ℕ → Float) (P : ℕ → Type 0) (finite : (k : ℕ) → P k → Finite (lb k)) where
  abbrev Lead : ℕ → ℕ → Type 0
  Lead = Leads lb P finite

  sorted : (m : ℕ) (ks : List ℕ) → Ascending ks → Each P ks → Sorted lb (ordered lb m ks)
  unfolding ordered Sorted
  sorted zero ks a e = tt
  sorted (suc m) [] a e = tt
  sorted (suc m) (k ∷ ks) a e =
      let c = cheapest lb k ks in
      let others = without c (k ∷ ks) in
      let q = cheapest_each P lb k ks e.0 e.1 in
      let all = each_both P (Lead c) (k ∷ ks) e (cheapest_leads lb P finite k ks a e.0 e.1) in
      let apart : Each (Before lb c) others =
      each_weaken _ (Before lb c) others (λ j r. before lb P finite c j q r.1.0 r.0 r.1.1)
      (those_pass (λ j. not (eqb j c)) (λ j. P j × Lead c j) (k ∷ ks) all) in (
        each_in (Before lb c) (ordered lb m others) (ordered_each (Before lb c) lb m others apart),
        sorted m others (those_ascend (λ j. not (eqb j c)) (k ∷ ks) a) (each_those (λ j. not (eqb j c)) P (k ∷ ks) e),
      )

-- ---- nothing is lost and nothing added
ordered_elem : (lb : ℕ → Float) (m : ℕ) (ks : List ℕ) → length ks ≤ m → (j : ℕ) → elem j (ordered lb m ks) ≡ elem j ks
unfolding ordered elem
ordered_elem lb zero [] h j = refl
ordered_elem lb zero (k ∷ ks) h j = absurd (omega arith)
ordered_elem lb (suc m) [] h j = refl
ordered_elem lb (suc m) (k ∷ ks) h j =
    let c = cheapest lb k ks in
    let others = without c (k ∷ ks) in
    let fewer = without_fewer c (k ∷ ks) (cheapest_in lb k ks) in
    ap (λ z. eqb j c || z) (ordered_elem lb m others (omega arith) j ∙ elem_those (λ i. not (eqb i c)) j (k ∷ ks))
    ∙ go (eqb j c) refl
  where
    go : (t : Bool) → eqb j (cheapest lb k ks) ≡ t → t || (not t && elem j (k ∷ ks)) ≡ elem j (k ∷ ks)
    go true e = sym (subst (λ (z : ℕ). elem z (k ∷ ks) ≡ true) (sym (eqb-true j (cheapest lb k ks) e)) (cheapest_in lb k ks))
    go false e = refl

-- none stands twice: no size goes before itself
pub never_itself : (lb : ℕ → Float) (k : ℕ) → Before lb k k → ⊥
never_itself lb k (inl e) = false≢true (sym (lt_itself (lb k)) ∙ e)
never_itself lb k (inr e) = omega (arith, e.1)

-- the law
pub in_order_inserted : (lb : ℕ → Float) (levels : ℕ) → ((k : ℕ) → SizeTo levels k → Finite (lb k))
    → Sorts lb (sizes_to levels) (in_order lb (sizes_to levels))
unfolding ascending above
in_order_inserted lb levels finite =
    let ks = sizes_to levels in
    record {
      same = ordered_elem lb (length ks) ks (le_refl (length ks));
      order = sorted lb (SizeTo levels) finite (length ks) ks (those_ascend (λ k. leb k levels) all_sizes (ascending_is all_sizes refl)) (sizes_each levels);
    }
