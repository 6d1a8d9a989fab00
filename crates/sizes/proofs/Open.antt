-- The open sizes, by a mask: closing one, and how the open sizes give the order one by one.
use Rattle.std.proofs.Common.{Option, None, Some}
use mathlib.Core.Path.{◌≡◌, refl, sym, ap, ◌∙◌}
use mathlib.Core.Bool.{Bool, true, false, not, ◌&&◌, and-true}
use mathlib.Core.List.{List, [], ◌∷◌}
use Prim.Native.Nat.{ℕ, ◌<◌}
use native.Mathlib.Omega.{arith}
use lib.Dec.{eqb, ltb}
use lib.ListN.{length, get_or, set, length-set, get_or-eq_default}
use lib.Seq.{get_or-set_same, get_or-set_other}
use lib.Ieee.{Float}
use borrow.Author.Tests.{eqb-true, eqb-false, ltb-true, ltb-false}
use Rattle.lists.specs.Counted.{elem}
use Rattle.lists.proofs.Choice.{and_false}
use Rattle.groups.proofs.Each.{Each}
use Rattle.sizes.specs.Order.{those, next_in, all_sizes, in_order}
use Rattle.sizes.proofs.Those.{each_those, those_same, those_both, without, without_fewer}
use Rattle.sizes.proofs.Order.{first_each, each_elem, no_first, first_then}

-- those that a mask leaves open
abbrev pub opened : List Bool → List ℕ
opened mask = those (λ (k : ℕ). get_or mask k false) all_sizes

-- a mask after a size is closed: that size no more, all others as before
closed_at : (mask : List Bool) (k j : ℕ) → get_or (set mask k false) j false ≡ get_or mask j false && not (eqb j k)
closed_at mask k j = same (eqb j k) refl
  where
    here : (t : Bool) → ltb k (length mask) ≡ t → get_or (set mask k false) k false ≡ false
    here true p = get_or-set_same mask k false false (ltb-true k (length mask) p)
    here false p =
        let l = ltb-false k (length mask) p in
        let n = length-set mask k false in
        get_or-eq_default (set mask k false) false {n = k} (omega arith)

    same : (t : Bool) → eqb j k ≡ t → get_or (set mask k false) j false ≡ get_or mask j false && not t
    same true p = rw (eqb-true j k p, and_false (get_or mask k false)) (here (ltb k (length mask)) refl)
    same false p = get_or-set_other mask k j false false (eqb-false j k p) ∙ sym (and-true (get_or mask j false))

pub closed : (mask : List Bool) (k : ℕ) → opened (set mask k false) ≡ without k (opened mask)
closed mask k =
    those_same (λ j. get_or (set mask k false) j false) (λ j. get_or mask j false && not (eqb j k)) (closed_at mask k)
    all_sizes
    ∙ sym (those_both (λ j. get_or mask j false) (λ j. not (eqb j k)) all_sizes)

-- what holds of each open size still holds
pub closed_each : (P : ℕ → Type 0) (mask : List Bool) (k : ℕ) → Each P (opened mask)
    → Each P (opened (set mask k false))
closed_each P mask k e = rw (closed mask k) (each_those (λ j. not (eqb j k)) P (opened mask) e)

-- the next size, where one is open
module _ (f : ℕ → Float) (mask : List Bool) where
  abbrev pub next : Option ℕ
  next = next_in f (opened mask)

  pub next_none : None ≡ next → opened mask ≡ []
  next_none = no_first f (opened mask)

  module _ (k : ℕ) (is : Some k ≡ next) where
    -- what holds of each open size holds of it
    pub next_each : (P : ℕ → Type 0) → Each P (opened mask) → P k
    next_each P e = first_each P f (opened mask) k e is

    -- it is the first in the order, and once it is closed the others follow likewise
    pub next_then : in_order f (opened mask) ≡ k ∷ in_order f (opened (set mask k false))
    next_then = first_then f (opened mask) k is ∙ ap (λ (ks : List ℕ). k ∷ in_order f ks) (sym (closed mask k))

    -- one fewer is open then
    pub next_fewer : length (opened (set mask k false)) < length (opened mask)
    next_fewer =
        rw (closed mask k)
        (without_fewer k (opened mask) (next_each (λ j. elem j (opened mask) ≡ true) (each_elem (opened mask))))
