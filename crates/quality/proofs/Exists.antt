-- Where there is a cut there is one of least exact sum, among all cuts. Assumes nothing.
use mathlib.Core.Path.{◌≡◌, refl}
use mathlib.Core.Logic.{◌⊎◌, inl, inr}
use mathlib.Core.Bool.{Bool, true, false}
use mathlib.Core.List.{List, [], ◌∷◌}
use Prim.Native.Nat.{ℕ, zero, suc, ◌*◌, ◌≤◌, ◌<◌}
use native.Mathlib.Nat.{le_trans, le_of_lt, le_refl, mul-le-mul_right, le_of_mul-le-mul_right}
use native.Mathlib.Omega.{arith}
use lib.Dec.{leb}
use borrow.Author.Tests.{leb-true, leb-false}
use Rattle.groups.specs.declared.Histogram.{Histogram}
use Rattle.groups.specs.Histogram.{IsHistogram}
use Rattle.groups.specs.Groups.{IsCut}
use Rattle.quality.specs.Quality.{Fraction, plus, NotAbove, group_sum, exact_sum, LeastOf, Least}
use Rattle.quality.proofs.Sums.{den_pos}
use Rattle.quality.proofs.Cuts.{From, Joined, of_both, last_start}

-- ---- the order of fractions
not_above_trans : (a b c : Fraction) → 0 < b.den → NotAbove a b → NotAbove b c → NotAbove a c
not_above_trans a b c D h k =
    let g : a.num * c.den * b.den ≤ c.num * a.den * b.den =
    omega (arith, mul-le-mul_right c.den h, mul-le-mul_right a.den k) in
    le_of_mul-le-mul_right g D

plus_mono : (a b c : Fraction) → NotAbove a b → NotAbove (plus a c) (plus b c)
plus_mono a b c h = omega (arith, mul-le-mul_right (c.den * c.den) h)

above : (a b : Fraction) → NotAbove a b ⊎ NotAbove b a
above a b = go (leb (a.num * b.den) (b.num * a.den)) refl
  where
    go : (t : Bool) → leb (a.num * b.den) (b.num * a.den) ≡ t → NotAbove a b ⊎ NotAbove b a
    go true e = inl (leb-true _ _ e)
    go false e = inr (le_of_lt (leb-false _ _ e))

module _ (v : List ℕ) (h : Histogram) (is : IsHistogram v h) where
  -- of the cuts S of the first j levels there is a least one, or none at all
  abbrev Has : (List ℕ → Type 0) → ℕ → Type 0
  Has S j = ((m : List ℕ) × LeastOf h S j m) ⊎ ((c : List ℕ) → S c → ⊥)

  module _ {S R U : List ℕ → Type 0} (joined : Joined S R U) (j : ℕ) where
    abbrev Below : List ℕ → List ℕ → Type 0
    Below m c = NotAbove (exact_sum h j m) (exact_sum h j c)

    has : (m : List ℕ) → U m → ((c : List ℕ) → S c → Below m c) → ((c : List ℕ) → R c → Below m c) → Has U j
    has m u f g = inl (m, record { cut = u; least = of_both joined (Below m) f g })

    either : ((c : List ℕ) → U c → 0 < (exact_sum h j c).den) → Has S j → Has R j → Has U j
    either pos (inr a) (inr b) = inr (of_both joined (λ c. ⊥) a b)
    either pos (inl (m, a)) (inr b) = has m (joined.left m a.cut) a.least (λ c r. absurd (b c r))
    either pos (inr a) (inl (o, b)) = has o (joined.right o b.cut) (λ c s. absurd (a c s)) b.least
    either pos (inl (m, a)) (inl (o, b)) =
        let x = exact_sum h j m in
        let y = exact_sum h j o in
        let M = joined.left m a.cut in
        let O = joined.right o b.cut in
        elim (above x y) [
          | inl l ↦ has m M a.least (λ c r. not_above_trans x y _ (pos o O) l (b.least c r))
          | inr l ↦ has o O (λ c s. not_above_trans y x _ (pos m M) l (a.least c s)) b.least
        ]

  -- ---- one group more, from i to j
  added : (k i j : ℕ) → Has (IsCut k i) i → Has (From k i) j
  unfolding exact_sum
  added k i j (inl (m, a)) = inl ((i ∷ m), record { cut = (refl, a.cut); least = all })
    where
      all : (c : List ℕ) → From k i c → NotAbove (exact_sum h j (i ∷ m)) (exact_sum h j c)
      all [] x = elim x [ ]
      all (i' ∷ c) x =
          rw x.0 (plus_mono (exact_sum h i m) (exact_sum h i c) (group_sum h i j) (a.least c (rw x.0 at x.1)))
  added k i j (inr a) = inr out
    where
      out : (c : List ℕ) → From k i c → ⊥
      out [] x = elim x [ ]
      out (i' ∷ c) x = a c (rw x.0 at x.1)

  -- the last of k + 1 groups starts before t
  before : (k j t : ℕ) → ((i : ℕ) → i ≤ h.n → Has (IsCut k i) i) → t ≤ j → j ≤ h.n → Has (IsCut (suc k) t) j
  before k j zero has l b = inr out
    where
      out : (c : List ℕ) → IsCut (suc k) 0 c → ⊥
      out [] x = elim x [ ]
      out (i ∷ c) x = omega (arith, x.0)
  before k j (suc t) has l b =
      either (last_start k t) j pos (before k j t has (le_of_lt l) b) (added k t j (has t (le_trans (le_of_lt l) b)))
    where
      pos : (c : List ℕ) → IsCut (suc k) (suc t) c → 0 < (exact_sum h j c).den
      pos [] x = elim x [ ]
      pos (i ∷ c) x = den_pos v h is (suc k) j (i ∷ c) (le_trans x.0 l, x.1) b

  has_least : (k j : ℕ) → j ≤ h.n → Has (IsCut k j) j
  has_least zero zero b = inl ([], record { cut = refl; least = alone })
    where
      alone : (c : List ℕ) → IsCut 0 0 c → NotAbove (exact_sum h 0 []) (exact_sum h 0 c)
      alone (_ ∷ _) x = elim x [ ]
      alone [] x = le_refl _
  has_least zero (suc j) b = inr out
    where
      out : (c : List ℕ) → IsCut 0 (suc j) c → ⊥
      out (_ ∷ _) x = elim x [ ]
      out [] x = omega arith
  has_least (suc k) j b = before k j j (λ i l. has_least k i l) (le_refl j) b

  pub least_of_holds : (k : ℕ) (c : List ℕ) → IsCut k h.n c → (m : List ℕ) × Least h k m
  least_of_holds k c x = elim (has_least k h.n (le_refl h.n)) [ inl m ↦ m | inr none ↦ absurd (none c x) ]
