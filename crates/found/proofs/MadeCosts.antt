-- The search reads costs made here as they were made, and never refuses them by 5.
use mathlib.Core.Path.{◌≡◌, refl, sym, ap, ◌∙◌}
use mathlib.Core.Bool.{Bool, true, false, cond, not, false≢true}
use mathlib.Core.List.{List}
use Prim.Native.Nat.{ℕ, ◌+◌, ◌-◌, ◌*◌}
use native.Mathlib.Omega.{arith}
use lib.Dec.{eqb, ltb}
use lib.Ieee.{Float, nan}
use lib.ListN.{length, get_or}
use borrow.Author.Tests.{eqb-true}
use Rattle.samples.specs.Samples.{lambda_ok, costs_ok, samples_ok}
use Rattle.costs.specs.Costs.{table_costs, costs_of}
use Rattle.costs.proofs.Placed.{stands}
use Rattle.costs.proofs.Bounded.{always_bounded}
use Rattle.cells.specs.Cell.{rates_of}
use Rattle.cells.proofs.Eight.{eight_at}
use Rattle.sizes.specs.Sizes.{head_of}
use Rattle.accept.specs.Accepted.{sides_ok, depth_ok}
use Rattle.accept.specs.Answer.{rooms_ok, refused_by}
use Rattle.sizes.specs.declared.Block.{Block}
use Rattle.search.specs.Search.{histogram_in, found_in, large_ok, fault_of, search_number, palette_by}
use Rattle.search.specs.declared.Best.{Best}
use Rattle.found.specs.MadeCosts.{SearchReadsAsMade, MadeNeverFive}

pub search_reads_as_made : SearchReadsAsMade
unfolding head_of rates_of
search_reads_as_made table =
    let p = stands table in
    record {
      head = λ b colors two most. rw (p.mode 0 (omega arith), p.mode 1 (omega arith), p.size (length colors) two most) refl;
      flag = p.row;
      rank = λ n c s two most five h.
          eight_at (λ r. get_or (table_costs table) (21 + ((n - 2) * 5 + c) * 8 + r) nan) s (omega arith) ∙ p.colour n c s two most five (omega arith);
    }

-- a choice of two other numbers
other : (t : Bool) (k x : ℕ) → (k ≡ 5 → ⊥) → (x ≡ 5 → ⊥) → cond t k x ≡ 5 → ⊥
other true k x a b e = a e
other false k x a b e = b e

-- test 5 passed
past : (t : Bool) (x : ℕ) → t ≡ true → (x ≡ 5 → ⊥) → cond (not t) 5 x ≡ 5 → ⊥
past true x k b e = b e
past false x k b e = absurd (false≢true k)

module _ (samples costs : List Float) (b : Block) (cells lines : ℕ) (ok : costs_ok costs ≡ true) where
  fault_other : fault_of samples costs b cells lines ≡ 5 → ⊥
  unfolding fault_of
  fault_other =
      let w = b.width in
      let h = b.height in
      other (not (sides_ok w h)) 1 _ (λ e. omega arith)
      (other (not (depth_ok b.bd)) 2 _ (λ e. omega arith)
      (other (not (eqb (length samples) (w * h))) 3 _ (λ e. omega arith)
      (other (not (lambda_ok b.lambda)) 4 _ (λ e. omega arith)
      (past (costs_ok costs) _ ok
      (other (not (samples_ok b.bd samples)) 6 _ (λ e. omega arith)
      (other (not (rooms_ok w h cells lines)) 7 _ (λ e. omega arith)
      (other (not (large_ok w h)) 8 0 (λ e. omega arith) (λ e. omega arith))))))))

  number_other : search_number samples costs b cells lines ≡ 5 → ⊥
  unfolding search_number
  number_other =
      let n = (histogram_in samples).n in
      other (eqb (fault_of samples costs b cells lines) 0) _ _
      (other (ltb n 2) 9 _ (λ e. omega arith) (other (ltb 32 n) 10 0 (λ e. omega arith) (λ e. omega arith))) fault_other

-- the number of an answer is that of its tests
answer_number_holds : (number : ℕ) (best : Best) → (cond (eqb number 0) (palette_by best) (refused_by number)).number ≡ number
answer_number_holds number best = go (eqb number 0) refl
  where
    go : (t : Bool) → eqb number 0 ≡ t → (cond t (palette_by best) (refused_by number)).number ≡ number
    go true t = sym (eqb-true number 0 t)
    go false t = refl

pub made_never_five : MadeNeverFive
made_never_five adapted samples b map₀ map flags₀ flags r s e =
    number_other samples (costs_of adapted) b (length map₀) (length flags₀) (always_bounded adapted).passes
    (sym (ap (λ p. p.number) s.answer ∙ answer_number_holds _ (found_in samples (costs_of adapted) b).best) ∙ e)
