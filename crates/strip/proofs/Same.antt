-- The blocks of a strip beside separate calls. Assumes nothing.
use mathlib.Core.Path.{◌≡◌, refl, sym, ◌∙◌}
use mathlib.Core.Bool.{true, false, not}
use mathlib.Core.List.{List}
use Prim.Native.Nat.{ℕ, ◌+◌, ◌*◌, ◌<◌}
use native.Mathlib.Nat.{le_of_eq}
use native.Mathlib.Omega.{arith}
use lib.Dec.{eqb, ltb}
use lib.ListN.{length, get_or}
use lib.Ieee.{Float}
use borrow.Author.Tests.{eq-eqb, eqb-false, le-leb}
use Rattle.lists.specs.Counted.{within, total, part_of}
use Rattle.lists.proofs.Choice.{either_way, and_both}
use Rattle.lists.proofs.Counted.{all_in_at}
use Rattle.lists.proofs.Parts.{length_part}
use Rattle.samples.specs.Samples.{lambda_ok, costs_ok, samples_ok}
use Rattle.sizes.specs.declared.Block.{Block}
use Rattle.accept.specs.declared.Palette.{Palette}
use Rattle.accept.specs.Accepted.{sides_ok, depth_ok}
use Rattle.accept.specs.Answer.{rooms_ok, refused_by}
use Rattle.search.specs.Search.{histogram_in, found_in, large_ok, fault_of, levels_fault, search_number, palette_by, answer_of, Searches}
use Rattle.strip.specs.declared.Strip.{Strip}
use Rattle.strip.specs.Strip.{blocks_in, block_at, cells_at, lines_at, Separate, Strips}
use Rattle.strip.specs.Same.{SameAsSeparate, NeverOneThreeSeven}
use Rattle.strip.proofs.Sides.{ready_of, fits_at}

-- what a search answers and leaves is settled by what it is given
pub searches_once : (samples costs : List Float) (b : Block) (map₀ m m' flags₀ f f' : List ℕ) (r r' : Palette)
    → Searches samples costs b map₀ m flags₀ f r → Searches samples costs b map₀ m' flags₀ f' r'
    → (r ≡ r') × (m ≡ m') × (f ≡ f')
searches_once samples costs b map₀ m m' flags₀ f f' r r' s t =
    (s.answer ∙ sym t.answer, s.cells ∙ rw (s.answer, ← t.answer) (sym t.cells), s.signs ∙ rw (s.answer, ← t.answer) (sym t.signs))

-- each block of a strip that is not refused
pub block : (sides : List ℕ) (samples costs : List Float) (bd : ℕ) (lambda : Float) (map₀ map flags₀ flags : List ℕ) (r : Strip)
    → Strips sides samples costs bd lambda map₀ map flags₀ flags r → r.number ≡ 0 → (i : ℕ) → i < blocks_in sides
    → Separate sides samples costs bd lambda map₀ map flags₀ flags i (get_or r.answers i (refused_by 0))
block sides samples costs bd lambda map₀ map flags₀ flags r s z i h = (rw (eq-eqb r.number 0 z) at s.searched).blocks i h

pub same_as_separate : SameAsSeparate
same_as_separate sides samples costs bd lambda map₀ map flags₀ flags r s z i h cells lines p t =
    searches_once _ _ _ _ _ _ _ _ _ _ _ (block sides samples costs bd lambda map₀ map flags₀ flags r s z i h) t

-- ---- a block's own numbers
abbrev Own : ℕ → Type 0
Own k = (k ≡ 1 → ⊥) × (k ≡ 3 → ⊥) × (k ≡ 7 → ⊥)

own : (k : ℕ) → eqb k 1 ≡ false → eqb k 3 ≡ false → eqb k 7 ≡ false → Own k
own k a b c = (eqb-false k 1 a, eqb-false k 3 b, eqb-false k 7 c)

-- the numbers that are left once sides, count of samples and rooms are right
module _ (samples costs : List Float) (b : Block) (cells lines : ℕ) (sides : sides_ok b.width b.height ≡ true)
    (count : eqb (length samples) (b.width * b.height) ≡ true) (rooms : rooms_ok b.width b.height cells lines ≡ true) where
  own_fault : Own (fault_of samples costs b cells lines)
  unfolding fault_of
  own_fault =
      rw (sides, count, rooms)
      (either_way Own (not (depth_ok b.bd)) 2 _ (own 2 refl refl refl)
      (either_way Own (not (lambda_ok b.lambda)) 4 _ (own 4 refl refl refl)
      (either_way Own (not (costs_ok costs)) 5 _ (own 5 refl refl refl)
      (either_way Own (not (samples_ok b.bd samples)) 6 _ (own 6 refl refl refl)
      (either_way Own (not (large_ok b.width b.height)) 8 0 (own 8 refl refl refl) (own 0 refl refl refl))))))

  own_number : Own (search_number samples costs b cells lines)
  unfolding search_number
  own_number =
      let n = (histogram_in samples).n in
      either_way Own (eqb (fault_of samples costs b cells lines) 0) (levels_fault n) _
      (either_way Own (ltb n 2) 9 _ (own 9 refl refl refl) (either_way Own (ltb 32 n) 10 0 (own 10 refl refl refl) (own 0 refl refl refl))) own_fault

  own_answer : Own (answer_of samples costs b cells lines).number
  own_answer =
      either_way (λ (p : Palette). Own p.number) (eqb (search_number samples costs b cells lines) 0) (palette_by (found_in samples costs b).best) _
      (own 0 refl refl refl) own_number

pub never_one_three_seven : NeverOneThreeSeven
unfolding sides_ok
never_one_three_seven sides samples costs bd lambda map₀ map flags₀ flags r s z i h =
    let zero = sym s.number ∙ z in
    let ready = ready_of sides _ _ _ zero in
    let fits = fits_at sides _ _ _ zero bd lambda i h in
    let b = block_at sides bd lambda i in
    let within_at : (k : ℕ) → k < length sides → within 1 64 (get_or sides k 0) ≡ true = all_in_at (within 1 64) sides ready.each in
    let sampled = length_part samples (total (cells_at sides) i) (cells_at sides i) fits.sampled in
    let mapped = length_part map₀ (total (cells_at sides) i) (cells_at sides i) fits.mapped in
    let lined = length_part flags₀ (total (lines_at sides) i) (lines_at sides i) fits.lined in
    rw (block sides samples costs bd lambda map₀ map flags₀ flags r s z i h).answer
    (own_answer (part_of (cells_at sides) samples i) costs b _ _
    (and_both _ _ (within_at (2 * i) (omega arith)) (within_at (2 * i + 1) (omega arith)))
    (eq-eqb _ _ sampled)
    (and_both _ _ (le-leb _ _ (le_of_eq (sym mapped))) (le-leb _ _ (le_of_eq (sym lined)))))
