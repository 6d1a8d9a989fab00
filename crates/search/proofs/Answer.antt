-- What `search` answers: a refusal by its number, or the palette with its cells and flags. Assumes nothing.
use mathlib.Core.Path.{◌≡◌, refl, sym, ap, ◌∙◌}
use mathlib.Core.Bool.{Bool, true, false, cond}
use mathlib.Core.List.{List}
use Prim.Native.Nat.{ℕ, ◌≤◌, zero-le}
use borrow.Author.Tests.{ne_eqb, eqb-true, eqb-false}
use lib.Dec.{eqb}
use lib.ListN.{length}
use lib.Ieee.{Float}
use Rattle.sizes.specs.declared.Block.{Block}
use Rattle.accept.specs.declared.Palette.{Palette}
use Rattle.accept.specs.Answer.{refused_by}
use Rattle.search.specs.declared.Best.{Best}
use Rattle.search.specs.Search.{found_in, search_number, palette_by, Searches}
use Rattle.search.specs.Steps.{Written}
use Rattle.search.proofs.Finds.{finds}
use Rattle.search.proofs.Passed.{all_passed}

-- search returned 0: all its tests have passed, and it handed the best map over
pub answer_zero : (number : ℕ) (best : Best) (r : Palette) → r ≡ cond (eqb number 0) (palette_by best) (refused_by number)
    → r.number ≡ 0 → (number ≡ 0) × (r ≡ palette_by best)
answer_zero number best r = go (eqb number 0) refl
  where
    go : (t : Bool) → eqb number 0 ≡ t → r ≡ cond t (palette_by best) (refused_by number) → r.number ≡ 0
        → (number ≡ 0) × (r ≡ palette_by best)
    go true t e z = (eqb-true number 0 t, e)
    go false t e z = absurd (eqb-false number 0 t (sym (ap (λ p. p.number) e) ∙ z))

module _ (samples costs : List Float) (b : Block) (map₀ flags₀ : List ℕ) where
  abbrev number : ℕ
  number = search_number samples costs b (length map₀) (length flags₀)

  pub refuses : (k : ℕ) → number ≡ k → (k ≡ 0 → ⊥) → (r : Palette) → r ≡ refused_by k
      → Searches samples costs b map₀ map₀ flags₀ flags₀ r
  refuses k e some r a = record {
    answer = a ∙ rw (e, ne_eqb k 0 some) refl;
    cells = rw (a, ne_eqb k 0 some) refl;
    signs = rw (a, ne_eqb k 0 some) refl;
  }

  pub answers : (map flags : List ℕ) (r : Palette) → number ≡ 0
      → Written (found_in samples costs b) map₀ map flags₀ flags r → Searches samples costs b map₀ map flags₀ flags r
  answers map flags r e w = record {
    answer = rw e w.answer;
    cells = rw w.answer w.cells;
    signs = rw w.answer w.signs;
  }

  -- at most eight colours
  pub few_colors : (map flags : List ℕ) (r : Palette) → Searches samples costs b map₀ map flags₀ flags r → r.n ≤ 8
  few_colors map flags r a = rw a.answer (go (eqb number 0) refl)
    where
      go : (t : Bool) → eqb number 0 ≡ t → (cond t (palette_by (found_in samples costs b).best) (refused_by number)).n ≤ 8
      go true e =
          let passed = all_passed samples costs b (length map₀) (length flags₀) (eqb-true number 0 e) in
          (finds passed.0 refl passed.1 passed.2).eight
      go false e = zero-le
