-- The contract of a strip settles everything. Assumes nothing.
use mathlib.Core.Path.{◌≡◌, refl, sym, ap, ◌∙◌}
use mathlib.Core.Bool.{Bool, true, false, cond}
use mathlib.Core.List.{List, ◌++◌}
use Prim.Native.Nat.{ℕ, zero, suc, ◌<◌}
use native.Mathlib.Omega.{arith}
use lib.Dec.{eqb, leb}
use lib.ListN.{get_or, drop}
use lib.Ieee.{Float}
use borrow.Author.Tests.{leb-true, leb-false}
use Rattle.lists.specs.Counted.{up_to, total, part_of}
use Rattle.accept.specs.declared.Palette.{Palette}
use Rattle.accept.specs.Answer.{refused_by}
use Rattle.strip.specs.Strip.{blocks_in, cells_at, lines_at, Searched}
use Rattle.strip.specs.Same.{StripsOnce}
use Rattle.strip.proofs.Same.{searches_once}

up_to_same : (f g : ℕ → List ℕ) (n : ℕ) → ((i : ℕ) → i < n → f i ≡ g i) → up_to f n ≡ up_to g n
unfolding up_to
up_to_same f g zero h = refl
up_to_same f g (suc n) h = rw (up_to_same f g n (λ i b. h i (omega arith)), h n (omega arith)) refl

searched_once : (sides : List ℕ) (samples costs : List Float) (bd : ℕ) (lambda : Float) (map₀ m m' flags₀ f f' : List ℕ)
    (count : ℕ) (a a' : List Palette)
    → Searched sides samples costs bd lambda map₀ m flags₀ f count a → Searched sides samples costs bd lambda map₀ m' flags₀ f' count a'
    → ((i : ℕ) → get_or a i (refused_by 0) ≡ get_or a' i (refused_by 0)) × (m ≡ m') × (f ≡ f')
searched_once sides samples costs bd lambda map₀ m m' flags₀ f f' count a a' s t = (
  λ i. go i (leb count i) refl,
  s.cells ∙ ap (λ (z : List ℕ). z ++ drop (total (cells_at sides) count) map₀)
      (up_to_same (part_of (cells_at sides) m) (part_of (cells_at sides) m') count (λ i h. (same i h).1)) ∙ sym t.cells,
  s.signs ∙ ap (λ (z : List ℕ). z ++ drop (total (lines_at sides) count) flags₀)
      (up_to_same (part_of (lines_at sides) f) (part_of (lines_at sides) f') count (λ i h. (same i h).2)) ∙ sym t.signs,
)
  where
    same : (i : ℕ) → i < count
        → (get_or a i (refused_by 0) ≡ get_or a' i (refused_by 0)) × (part_of (cells_at sides) m i ≡ part_of (cells_at sides) m' i)
        × (part_of (lines_at sides) f i ≡ part_of (lines_at sides) f' i)
    same i h = searches_once _ _ _ _ _ _ _ _ _ _ _ (s.blocks i h) (t.blocks i h)

    go : (i : ℕ) (b : Bool) → leb count i ≡ b → get_or a i (refused_by 0) ≡ get_or a' i (refused_by 0)
    go i true e = s.others i (leb-true count i e) ∙ sym (t.others i (leb-true count i e))
    go i false e = (same i (leb-false count i e)).0

pub strips_once : StripsOnce
strips_once sides samples costs bd lambda map₀ m m' flags₀ f f' r r' s t =
    let n : r.number ≡ r'.number = s.number ∙ sym t.number in
    let count = cond (eqb r'.number 0) (blocks_in sides) 0 in
    let all = searched_once sides samples costs bd lambda map₀ m m' flags₀ f f' count _ _ (rw n at s.searched) t.searched in
    (n, all.0, all.1, all.2)
