-- The colours of a cut's groups, written from the last back: each lies within its group, so they ascend strictly.
use mathlib.Core.Path.{◌≡◌, refl, ap, ◌∙◌}
use mathlib.Core.Bool.{true}
use mathlib.Core.List.{List, [], ◌∷◌, ◌++◌}
use Prim.Native.Nat.{ℕ, zero, suc, ◌+◌, ◌*◌, ◌≤◌, ◌<◌}
use native.Mathlib.Nat.{zero-add, add-zero, le_refl, lt_of_lt_of_le, le_of_suc-le-suc}
use native.Mathlib.Numerals.{add-one}
use native.Mathlib.Omega.{arith}
use lib.Dec.{leb}
use lib.ListN.{length, get_or, set, length-append, take, replicate}
use lib.Seq.{set_comm}
use borrow.Author.Tests.{le-leb}
use Rattle.lists.specs.Written.{written}
use Rattle.lists.proofs.Written.{written_take}
use Rattle.lists.specs.Counted.{ascending, all_in}
use Rattle.lists.proofs.Ascending.{Ascending, is_ascending}
use Rattle.groups.specs.declared.Histogram.{Histogram}
use Rattle.groups.specs.Histogram.{IsHistogram}
use Rattle.groups.specs.Groups.{prefix_of, IsCut, color_of, colors_of, cut_of, centers_of, groups_of}
use Rattle.groups.proofs.Each.{Each, each_weaken, each_snoc, each_all, ascending_snoc}
use Rattle.groups.proofs.Means.{levels_rise, color_from, color_to}
use Rattle.groups.proofs.Cuts.{cut_length, chosen_cut, traced, traced_length}

-- ---- writing from the last place back
written_last : (l : List ℕ) (at : ℕ) (xs : List ℕ) (y : ℕ)
    → written (set l (at + length xs) y) at xs ≡ written l at (xs ++ (y ∷ []))
unfolding written
written_last l at [] y = rw add-zero refl
written_last l at (x ∷ xs) y =
    let e : at + suc (length xs) ≡ at + 1 + length xs = omega arith in
    rw (set_comm l (at + suc (length xs)) at y x (λ d. omega arith), e) (written_last (set l at x) (at + 1) xs y)

pub colors_length : (w s : List ℕ) (j : ℕ) (c : List ℕ) → length (colors_of w s j c) ≡ length c
unfolding colors_of
colors_length w s j [] = refl
colors_length w s j (i ∷ c) =
    length-append (colors_of w s i c) (color_of w s i j ∷ []) ∙ add-one _ ∙ ap suc (colors_length w s i c)

-- one group more from the back
pub placed : (w s cuts l : List ℕ) (g j i y : ℕ) → i ≡ get_or cuts (g * 33 + 33 + j) 0 → y ≡ color_of w s i j
    → written (set l g y) 0 (colors_of w s i (traced cuts g i)) ≡ written l 0 (colors_of w s j (traced cuts (suc g) j))
unfolding colors_of traced
placed w s cuts l g j i y e f =
    let n : 0 + length (colors_of w s i (traced cuts g i)) ≡ g =
    zero-add _ ∙ colors_length w s i (traced cuts g i) ∙ traced_length cuts g i in
    rw (f, ← e) (rw n at (written_last l 0 (colors_of w s i (traced cuts g i)) (color_of w s i j)))

-- ---- the colours of a cut
module _ (v : List ℕ) (h : Histogram) (is : IsHistogram v h) where
  -- they ascend, and stay below what is above the levels
  rise : (k j : ℕ) (cut : List ℕ) → IsCut k j cut → j ≤ h.n
      → Ascending (colors_of h.w h.s j cut)
      × ((y : ℕ) → ((t : ℕ) → t < j → get_or v t 0 < y) → Each (λ x. x < y) (colors_of h.w h.s j cut))
  unfolding colors_of
  rise zero j [] c l = (tt, λ y f. tt)
  rise zero j (i ∷ cut) c l = absurd c
  rise (suc k) j [] c l = absurd c
  rise (suc k) j (i ∷ cut) c l =
      let r = rise k i cut c.1 (omega arith) in
      let x = color_of h.w h.s i j in
      let front = colors_of h.w h.s i cut in
      let low : Each (λ z. z < x) front =
      r.1 x (λ t m. lt_of_lt_of_le (levels_rise v h is t i m (omega arith)) (color_from v h is i j c.0 l)) in (
        ascending_snoc front x r.0 low,
        λ y f. each_snoc (λ z. z < y) front x (r.1 y (λ t m. f t (omega arith))) (top y f),
      )
    where
      top : (y : ℕ) → ((t : ℕ) → t < j → get_or v t 0 < y) → color_of h.w h.s i j < y
      top zero f = absurd (omega (arith, f i c.0))
      top (suc y) f = omega (arith, color_to v h is i j c.0 l y (λ t a b. le_of_suc-le-suc (f t b)))

  -- k groups give k colours, strictly ascending, none above the levels
  module _ (k : ℕ) (some : 0 < k) (few : k ≤ h.n) where
    cut : IsCut k h.n (cut_of h k)
    cut = chosen_cut (prefix_of h.w) (prefix_of h.s) (prefix_of h.q) k h.n few (λ e. absurd (omega arith))

    pub centers_length : length (centers_of h k) ≡ k
    centers_length = colors_length h.w h.s h.n (cut_of h k) ∙ cut_length k h.n (cut_of h k) cut

    pub centers_ascend : ascending (centers_of h k) ≡ true
    centers_ascend = is_ascending (centers_of h k) (rise k h.n (cut_of h k) cut (le_refl h.n)).0

    pub centers_top : (top : ℕ) → ((i : ℕ) → get_or v i 0 ≤ top) → all_in (λ x. leb x top) (centers_of h k) ≡ true
    centers_top top f =
        each_all (λ x. leb x top) (centers_of h k)
        (each_weaken (λ x. x < suc top) (λ x. leb x top ≡ true) (centers_of h k) (λ x l. le-leb x top (le_of_suc-le-suc l))
        ((rise k h.n (cut_of h k) cut (le_refl h.n)).1 (suc top) (λ t l. omega (arith, f t))))

    -- the colours that the code hands over are these, then zeros
    pub colors_take : k ≤ 8 → take k (groups_of h k).colors ≡ centers_of h k
    colors_take l =
        rw centers_length at (written_take (replicate 8 0) (centers_of h k) (omega (arith, centers_length)))
