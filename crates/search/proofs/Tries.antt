-- One map of a size: what it needs, and what stands after it. Assumes nothing.
use mathlib.Core.Path.{◌≡◌, refl, ap, ◌∙◌}
use mathlib.Core.Bool.{Bool, true, false}
use mathlib.Core.List.{List, map}
use Prim.Native.Nat.{ℕ, ◌*◌, ◌≤◌}
use native.Mathlib.Omega.{arith}
use lib.Dec.{ltb}
use lib.ListN.{length, get_or, take, length-replicate, get_or-eq_default}
use lib.Seq.{take-length}
use lib.Ieee.{Float, nan, binary32, lt}
use borrow.Author.Tests.{ltb-true, ltb-false}
use Rattle.lists.specs.Written.{written}
use Rattle.lists.proofs.Written.{written_take}
use Rattle.ieee.specs.Numbers.{nat}
use Rattle.ieee.specs.Bounds.{NotNeg}
use Rattle.samples.proofs.Ranges.{lambda_within, costs_count, costs_within}
use Rattle.context.specs.Map.{lines_of}
use Rattle.near.specs.Near.{Below}
use Rattle.scan.specs.Scan.{scan_of, Sound}
use Rattle.map_search.specs.Lines.{map_of}
use Rattle.cells.specs.Sure.{Priced}
use Rattle.map_search.specs.Parts.{Built}
use Rattle.scan.specs.declared.Scan.{Scan}
use Rattle.std.specs.Prelude.{Option}
use Rattle.cells.specs.declared.Cost.{Cost}
use Rattle.search.specs.declared.BestMap.{BestMap}
use Rattle.scan.proofs.Scans.{scan_sound, lines_are}
use Rattle.sizes.specs.declared.Block.{Block}
use Rattle.sizes.specs.declared.Size.{Size}
use Rattle.search.specs.declared.Best.{Best}
use Rattle.search.specs.Search.{Standing, lower, judged, map_in, tried}
use Rattle.search.specs.Steps.{Zeros, Stands}
use Rattle.search.proofs.Passed.{Ready, few_cells, few_lines}
use Rattle.lists.proofs.Zeros.{zeros_below}

-- ---- a map with a lower total
-- it stands
pub lower_stands : (s : Standing) (kept kept' : BestMap) (next : Best) (cells lines : List ℕ) → Stands s kept
    → length cells ≤ length kept.cells → length lines ≤ length kept.lines → kept'.best ≡ next
    → kept'.cells ≡ written kept.cells 0 (take (length cells) cells) → kept'.lines ≡ written kept.lines 0 (take (length lines) lines)
    → lt next.total kept.best.total ≡ true
    → Stands (lower s (record { best = next; map = cells; flags = lines })) kept'
lower_stands s kept kept' next cells lines S room lineRoom is m f e =
    rw (rw S.is at e) (record {
      is = is;
      cells = rw (m, take-length cells) (written_take kept.cells cells room);
      signs = rw (f, take-length lines) (written_take kept.lines lines lineRoom);
    })

-- else what stood stands
pub higher_stands : (s : Standing) (kept : BestMap) (next : Best) (cells lines : List ℕ) → Stands s kept
    → lt next.total kept.best.total ≡ false → Stands (lower s (record { best = next; map = cells; flags = lines })) kept
higher_stands s kept next cells lines S e = rw (rw S.is at e) S

-- ---- what the map search asks
module _ {samples costs : List Float} {b : Block} {room lineRoom : ℕ} (ready : Ready samples costs b room lineRoom) where
  cost_plus : (i : ℕ) → NotNeg (get_or costs i nan)
  cost_plus i = go (ltb i 301) refl
    where
      go : (t : Bool) → ltb i 301 ≡ t → NotNeg (get_or costs i nan)
      go true e = (costs_within costs ready.priced i (ltb-true i 301 e)).1
      go false e =
          let past : length costs ≤ i = omega (arith, costs_count costs ready.priced, ltb-false i 301 e) in
          rw (get_or-eq_default costs nan past) tt

  pub priced : Priced costs b.lambda
  priced = record { plus = cost_plus; mild = lambda_within b.lambda ready.weight }

  pub scanned : (t : Bool) (s : Scan) → s ≡ scan_of b.width b.height t → Sound s (length samples)
  scanned t s is = rw (is, ready.count) (scan_sound b.width b.height t ready.wide ready.wide_most ready.high ready.high_most)

  module _ (t : Bool) {cells lines : List ℕ} (zeros : Zeros b t cells lines) where
    pub cells_count : length cells ≡ b.width * b.height
    cells_count = rw zeros.cells_zero (length-replicate (b.width * b.height) 0)

    pub lines_count : length lines ≡ lines_of t b.width b.height
    lines_count = rw zeros.lines_zero (length-replicate (lines_of t b.width b.height) 0)

    pub buildable : (n : ℕ) → 2 ≤ n → (s : Scan) → s ≡ scan_of b.width b.height t
        → (length samples ≤ length cells) × (length cells ≤ 4096) × (s.lines ≤ length lines) × Below cells n
    buildable n two s is =
        let small = few_cells ready in (
          omega (arith, cells_count, ready.count),
          omega (arith, cells_count, small),
          omega (arith, lines_count, ap (λ (q : Scan). q.lines) is, (lines_are b.width b.height t).0),
          rw zeros.cells_zero (λ i. zeros_below (b.width * b.height) n i (omega arith)),
        )

    -- and there is room for what it gives
    pub room_for : (cells' lines' : List ℕ) → length cells' ≡ length cells → length lines' ≡ length lines
        → (length cells' ≤ 4096) × (length lines' ≤ 64)
    room_for cells' lines' kept keptLines =
        (omega (arith, kept, cells_count, few_cells ready), few_lines ready t _ (keptLines ∙ lines_count))

-- ---- the definition's map is the one that was built
module _ (samples costs : List Float) (b : Block) (z : Size) (t : Bool) where
  pub map_is : (bound : Float) (scan : Scan) (n : ℕ) (colours : List Float) (cells₀ lines₀ cells lines : List ℕ) (found : Option Cost)
      → scan ≡ scan_of b.width b.height t → n ≡ z.n → colours ≡ map (nat binary32) z.colors → Zeros b t cells₀ lines₀
      → Built (map_of samples costs colours n b.lambda scan z.head bound cells₀ lines₀) found cells lines
      → Built (map_in samples costs b z t bound) found cells lines
  map_is bound scan n colours cells₀ lines₀ cells lines found scan-is n-is colours-are zeros built =
      let count = (lines_are b.width b.height t).0 in
      rw count (rw (scan-is, n-is, colours-are, zeros.cells_zero, zeros.lines_zero, count) at built)

  pub tried_is : (best : Best) (s : Standing) → best ≡ s.best → (cells lines : List ℕ) (found r : Option Cost)
      → Built (map_in samples costs b z t best.total) found cells lines → found ≡ r
      → tried samples costs b z t s ≡ judged b z t s cells lines r
  unfolding tried
  tried_is best s is cells lines found r built told = rw (← told, built.result, built.cells, built.signs, is) refl
