-- The first of the cheapest sizes, where no lb is infinite or NaN: by lb none is below it, and of a tie it is the least.
use mathlib.Core.Path.{◌≡◌, refl, sym, ◌∙◌}
use mathlib.Core.Bool.{Bool, true, false, cond, not, false≢true}
use mathlib.Core.Logic.{inl, inr}
use mathlib.Core.List.{List, [], ◌∷◌}
use Prim.Native.Nat.{ℕ, ◌≤◌}
use native.Mathlib.Nat.{le_refl}
use native.Mathlib.Omega.{arith}
use lib.Dec.{eqb}
use lib.Ieee.{Float, lt}
use borrow.Author.Tests.{eqb-false}
use Rattle.lists.proofs.Ascending.{Above, above_lower}
use Rattle.ieee.proofs.Compare.{Finite, lt_itself, at_most_trans, lt_asym, lt_tie}
use Rattle.groups.proofs.Each.{Each}
use Rattle.cells.specs.Cell.{cheapest}
use Rattle.sizes.specs.Order.{Before}
use Rattle.sizes.proofs.Order.{cheapest_each}

module _ (lb : ℕ → Float) (P : ℕ → Type 0) (finite : (k : ℕ) → P k → Finite (lb k)) where
  trans : (i j k : ℕ) → P i → P j → P k → lt (lb j) (lb i) ≡ false → lt (lb k) (lb j) ≡ false → lt (lb k) (lb i) ≡ false
  trans i j k p q r = at_most_trans (lb i) (lb j) (lb k) (finite i p) (finite j q) (finite k r)

  asym : (i j : ℕ) → P i → P j → lt (lb i) (lb j) ≡ true → lt (lb j) (lb i) ≡ false
  asym i j p q = lt_asym (lb i) (lb j) (finite i p) (finite j q)

  -- by lb c is not behind j, and on a tie not by number either
  abbrev pub Leads : ℕ → ℕ → Type 0
  Leads c j = (lt (lb j) (lb c) ≡ false) × (lt (lb c) (lb j) ≡ false → c ≤ j)

  leads_itself : (k : ℕ) → Leads k k
  leads_itself k = (lt_itself (lb k), λ e. le_refl k)

  pub cheapest_leads : (a : ℕ) (bs : List ℕ) → Above a bs → P a → Each P bs
      → Leads (cheapest lb a bs) a × Each (Leads (cheapest lb a bs)) bs
  unfolding cheapest
  cheapest_leads a [] up p e = (leads_itself a, tt)
  cheapest_leads a (b ∷ bs) up p e =
      let later = cheapest_leads b bs up.1 e.0 e.1 in
      let earlier = cheapest_leads a bs (above_lower a b bs up.0 up.1) p e.1 in
      let go : (t : Bool) → lt (lb b) (lb a) ≡ t
      → let c = cheapest lb (cond t b a) bs in Leads c a × (Leads c b × Each (Leads c) bs) =
      elim [
        | true ↦ λ h.
            let c = cheapest lb b bs in
            let q = cheapest_each P lb b bs e.0 e.1 in (
              (
                trans c b a q e.0 p later.0.0 (asym b a e.0 p h),
                λ l. absurd (false≢true (sym (trans a c b p q e.0 l later.0.0) ∙ h)),
              ),
              later,
            )
        | false ↦ λ h.
            let c = cheapest lb a bs in
            let q = cheapest_each P lb a bs p e.1 in (
              earlier.0,
              (
                (
                  trans c a b q p e.0 earlier.0.0 h,
                  λ l. omega (arith, up.0, earlier.0.1 (trans a b c p e.0 q h l)),
                ),
                earlier.1,
              ),
            )
      ] in
      go (lt (lb b) (lb a)) refl

  pub before : (c j : ℕ) → P c → P j → not (eqb j c) ≡ true → Leads c j → Before lb c j
  before c j p q other l = go (lt (lb c) (lb j)) refl
    where
      differ : (t : Bool) → eqb j c ≡ t → not t ≡ true → j ≡ c → ⊥
      differ true e n i = false≢true n
      differ false e n i = eqb-false j c e i

      go : (t : Bool) → lt (lb c) (lb j) ≡ t → Before lb c j
      go true e = inl e
      go false e =
          inr (lt_tie (lb c) (lb j) (finite c p) (finite j q) e l.0, omega (arith, l.1 e, differ (eqb j c) refl other))
