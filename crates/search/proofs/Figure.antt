-- The bit estimate of an answer: document 01's (head + map bits) × 3 of what was found, 0 of a refusal. Assumes nothing.
use mathlib.Core.Path.{◌≡◌, refl, sym, ap, ◌∙◌}
use mathlib.Core.Bool.{Bool, true, false, cond}
use mathlib.Core.List.{List}
use Prim.Native.Nat.{ℕ}
use borrow.Author.Tests.{eqb-true, eqb-false}
use lib.Dec.{eqb}
use lib.ListN.{length}
use lib.Ieee.{Float, binary32, add, sum, round, mul, of_bits, of_fields, of_int}
use Rattle.ieee.specs.Numbers.{nat}
use Rattle.sizes.specs.declared.Block.{Block}
use Rattle.accept.specs.declared.Palette.{Palette}
use Rattle.accept.specs.Answer.{refused_by}
use Rattle.search.specs.Search.{histogram_in, found_in, search_number, palette_by, estimate_of}
use Rattle.search.specs.Estimated.{estimate_in, Estimated, IsEstimated}
use Rattle.search.proofs.Kept.{Kept}
use Rattle.search.proofs.Finds.{finds}
use Rattle.search.proofs.Passed.{all_passed}

-- the code's 3.0
three : of_bits binary32 1077936128 ≡ nat binary32 3
unfolding of_bits of_int round
three = refl

pub as_estimate : (head bits : Float) → mul binary32 (add binary32 head bits) (of_bits binary32 1077936128) ≡ estimate_of head bits
as_estimate head bits = ap (λ (k : Float). mul binary32 (add binary32 head bits) k) three

zero_estimate : estimate_of (of_bits binary32 0) (of_bits binary32 0) ≡ of_bits binary32 0
unfolding of_bits of_fields of_int round add sum mul
zero_estimate = refl

module _ (samples costs : List Float) (b : Block) where
  kept_estimated : Kept samples costs b (histogram_in samples) (found_in samples costs b)
      → Estimated samples costs b (found_in samples costs b) (palette_by (found_in samples costs b).best)
  kept_estimated k = record {
    bound = k.bound;
    error = k.cost.dist;
    bits = k.cost.rate;
    walk = k.whole;
    figure = (k.headed, k.counted, rw (k.headed, k.counted) refl);
  }

pub is_estimated : IsEstimated
is_estimated samples costs b map₀ map flags₀ flags r a = go (eqb number 0) refl a.answer
  where
    number : ℕ
    number = search_number samples costs b (length map₀) (length flags₀)

    go : (t : Bool) → eqb number 0 ≡ t → r ≡ cond t (palette_by (found_in samples costs b).best) (refused_by number)
        → (r.number ≡ 0 → Estimated samples costs b (found_in samples costs b) r)
        × ((r.number ≡ 0 → ⊥) → estimate_in r ≡ of_bits binary32 0)
    go true e i =
        let passed = all_passed samples costs b (length map₀) (length flags₀) (eqb-true number 0 e) in
        let kept = finds passed.0 refl passed.1 passed.2 in
        (λ z. rw i (kept_estimated samples costs b kept), λ some. absurd (some (ap (λ (p : Palette). p.number) i)))
    go false e i =
        (λ z. absurd (eqb-false number 0 e (sym (ap (λ (p : Palette). p.number) i) ∙ z)), λ some. ap estimate_in i ∙ zero_estimate)
