-- One block more: what stands before and after it is searched. Assumes nothing.
use mathlib.Core.Path.{◌≡◌, refl, ◌∙◌}
use mathlib.Core.List.{List}
use mathlib.Core.Logic.{⊎_elim}
use Prim.Native.Nat.{ℕ, zero, suc, ◌+◌, ◌≤◌, ◌<◌}
use native.Mathlib.Nat.{eq-or-lt_of_le, le_of_suc-le-suc}
use native.Mathlib.Numerals.{add-one}
use native.Mathlib.Omega.{arith}
use lib.ListN.{length, get_or, drop, set, replicate}
use lib.Seq.{get_or-set_same, get_or-set_other}
use lib.Ieee.{Float}
use Rattle.lists.specs.Counted.{up_to, total}
use Rattle.lists.proofs.Parts.{front_same, behind_same, total_more, total_within, parts_then, behind_parts}
use Rattle.sizes.specs.declared.Block.{Block}
use Rattle.accept.specs.declared.Palette.{Palette}
use Rattle.accept.specs.Answer.{refused_by}
use Rattle.strip.specs.declared.Places.{Places}
use Rattle.strip.specs.Strip.{block_at, cells_at, lines_at, Separate, Searched}
use Rattle.strip.specs.Steps.{places_to, SearchesAt}

all_same : (n i : ℕ) (x : Palette) → get_or (replicate n x) i x ≡ x
all_same zero i x = refl
all_same (suc n) zero x = refl
all_same (suc n) (suc i) x = all_same n i x

-- no block is searched: nothing is written, and all answers are 0
pub nothing : (sides : List ℕ) (samples costs : List Float) (bd : ℕ) (lambda : Float) (map flags : List ℕ) (x : Palette) (n : ℕ)
    → x ≡ refused_by 0 → Searched sides samples costs bd lambda map map flags flags 0 (replicate n x)
unfolding up_to total
nothing sides samples costs bd lambda map flags x n e =
    record { blocks = λ i h. absurd (omega arith); others = λ i h. rw e (all_same n i (refused_by 0)); cells = refl; signs = refl }

module _ (sides : List ℕ) (samples costs : List Float) (bd : ℕ) (lambda : Float) (map₀ map flags₀ flags : List ℕ)
    (i : ℕ) (answers : List Palette) (room : i < length answers) (s : Searched sides samples costs bd lambda map₀ map flags₀ flags i answers)
    (mapped : total (cells_at sides) i ≤ length map) (lined : total (lines_at sides) i ≤ length flags) where
  abbrev none : Palette
  none = refused_by 0

  -- behind the blocks so far all is as it was
  map_rest : drop (total (cells_at sides) i) map ≡ drop (total (cells_at sides) i) map₀
  map_rest = behind_parts (cells_at sides) map map₀ i mapped s.cells

  flags_rest : drop (total (lines_at sides) i) flags ≡ drop (total (lines_at sides) i) flags₀
  flags_rest = behind_parts (lines_at sides) flags flags₀ i lined s.signs

  module _ (m f : List ℕ) (r : Palette) (t : SearchesAt samples costs (block_at sides bd lambda i) (places_to sides i) map m flags f r) where
    earlier : (k : ℕ) → k < i → Separate sides samples costs bd lambda map₀ m flags₀ f k (get_or (set answers i r) k none)
    earlier k h =
        rw (
          front_same (total (cells_at sides) k) (cells_at sides k) (total (cells_at sides) i) m map (total_within (cells_at sides) k i h) t.cells.front,
          front_same (total (lines_at sides) k) (lines_at sides k) (total (lines_at sides) i) f flags (total_within (lines_at sides) k i h) t.signs.front,
          get_or-set_other answers i k r none (λ e. omega arith),
        ) (s.blocks k h)

    this : Separate sides samples costs bd lambda map₀ m flags₀ f i (get_or (set answers i r) i none)
    this = rw (get_or-set_same answers i r none room, ← map_rest, ← flags_rest) t.search

    pub turn : Searched sides samples costs bd lambda map₀ m flags₀ f (i + 1) (set answers i r)
    turn =
        record {
          blocks = λ k h. ⊎_elim (λ e. rw e this) (λ l. earlier k l) (eq-or-lt_of_le (le_of_suc-le-suc (rw add-one at h)));
          others = λ k h. get_or-set_other answers i k r none (λ e. omega arith) ∙ s.others k (omega arith);
          cells = parts_then (cells_at sides) m map₀ (i + 1) (rw (total_more (cells_at sides) i)
              (t.cells.behind ∙ behind_same (total (cells_at sides) i) (cells_at sides i) map map₀ map_rest));
          signs = parts_then (lines_at sides) f flags₀ (i + 1) (rw (total_more (lines_at sides) i)
              (t.signs.behind ∙ behind_same (total (lines_at sides) i) (lines_at sides i) flags flags₀ flags_rest));
        }

  -- as the code has it: the block and its places by their names
  pub turn_at : (b : Block) (at : Places) → b ≡ block_at sides bd lambda i → at ≡ places_to sides i → (m f : List ℕ) (r : Palette)
      → SearchesAt samples costs b at map m flags f r → Searched sides samples costs bd lambda map₀ m flags₀ f (i + 1) (set answers i r)
  turn_at b at p q m f r t = turn m f r (rw (p, q) at t)
