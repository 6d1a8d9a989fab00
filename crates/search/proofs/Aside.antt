-- The best map is kept aside until it is final: what the steps of `search_in` ask, and the palette that it writes.
use mathlib.Core.Path.{◌≡◌, sym, ap, subst, ◌∙◌}
use mathlib.Core.List.{List}
use Prim.Native.Nat.{ℕ, ◌*◌, min, ◌≤◌}
use lib.ListN.{length, take}
use lib.Seq.{length-take-le}
use lib.Ieee.{Float}
use Rattle.lists.specs.Written.{written, front}
use Rattle.lists.proofs.Written.{written_front}
use Rattle.samples.proofs.Ranges.{costs_count}
use Rattle.groups.specs.declared.Histogram.{Histogram}
use Rattle.groups.specs.Tables.{TablesOf}
use Rattle.context.specs.Map.{lines_of}
use Rattle.sizes.specs.declared.Block.{Block}
use Rattle.sizes.specs.Known.{Known}
use Rattle.search.specs.declared.Best.{Best}
use Rattle.search.specs.Search.{Standing, searched, histogram_in, palette_by}
use Rattle.search.specs.Steps.{Stands, Whole, Written}
use Rattle.scan.proofs.Scans.{lines_are}
use Rattle.search.proofs.Passed.{Ready}
use Rattle.search.proofs.Colors.{levels_in, levels_top, is_histogram}
use Rattle.search.specs.declared.BestMap.{BestMap}
use Rattle.search.proofs.Kept.{kept_cells, kept_flags}
use Rattle.search.proofs.Finds.{finds}

module _ {samples costs : List Float} {b : Block} {room lineRoom : ℕ} (ready : Ready samples costs b room lineRoom) where
  module _ {h : Histogram} (is : h ≡ histogram_in samples) (two : 2 ≤ h.n) (few : h.n ≤ 32) where
    pub known : (last : ℕ) (table : List Float) (cuts : List ℕ) → last ≡ min 8 h.n → TablesOf h last table cuts
        → Known costs b h table cuts
    known last table cuts m t = record {
      priced = costs_count costs ready.priced;
      wide = ready.wide_most;
      high = ready.high_most;
      deep = ready.deep;
      deep_most = ready.deep_most;
      two = two;
      levels = levels_in samples;
      histogram = is_histogram ready is few;
      top = levels_top ready is few;
      tables = subst (λ k. TablesOf h k table cuts) m t;
    }

    -- what stands at the end is whole
    pub whole : Whole b (searched samples costs b h)
    whole =
        let kept = finds ready is two few in
        record { cells = kept_cells kept; signs = kept_flags kept ∙ (lines_are b.width b.height _).0 }

take_fits : (xs : List ℕ) (k room : ℕ) → k ≤ length xs → k ≤ room → length (take k xs) ≤ room
take_fits xs k room p q = rw (length-take-le k xs p) q

-- the best map, which was kept aside, is written
pub written_found : (b : Block) (s : Standing) (kept : BestMap) → Stands s kept → Whole b s
    → (map₀ map flags₀ flags : List ℕ) (count : ℕ) → count ≡ lines_of kept.best.transposed b.width b.height
    → (b.width * b.height ≤ length kept.cells) × (b.width * b.height ≤ length map₀)
    → (count ≤ length kept.lines) × (count ≤ length flags₀)
    → map ≡ written map₀ 0 (take (b.width * b.height) kept.cells) → flags ≡ written flags₀ 0 (take count kept.lines)
    → Written s map₀ map flags₀ flags (palette_by kept.best)
written_found b s kept S whole map₀ map flags₀ flags count c cells lines m f =
    let all_cells = subst (λ k. take k kept.cells ≡ s.map) whole.cells S.cells in
    let counted : length s.flags ≡ count =
    whole.signs ∙ ap (λ (q : Best). lines_of q.transposed b.width b.height) (sym S.is) ∙ sym c in
    let all_lines = subst (λ k. take k kept.lines ≡ s.flags) counted S.signs in
    record {
      answer = ap palette_by S.is;
      cells =
          m ∙ written_front map₀ (take (b.width * b.height) kept.cells) (take_fits _ _ _ cells.0 cells.1)
          ∙ ap (λ ws. front ws map₀) all_cells;
      signs =
          f ∙ written_front flags₀ (take count kept.lines) (take_fits _ _ _ lines.0 lines.1)
          ∙ ap (λ ws. front ws flags₀) all_lines;
    }
