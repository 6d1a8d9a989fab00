-- A block's parts, lent and back in their buffers. Assumes nothing.
use mathlib.Core.Path.{◌≡◌, ap, ◌∙◌}
use mathlib.Core.List.{List}
use Prim.Native.Nat.{ℕ, ◌+◌, ◌-◌, ◌*◌, ◌≤◌, max}
use native.Mathlib.Omega.{arith}
use lib.ListN.{length}
use lib.Ieee.{Float}
use borrow.Rule.Slice.PartMut.{mid_of, put_mid, mid_len, take_put, drop_put}
use Rattle.lists.specs.Counted.{part}
use Rattle.lists.proofs.Parts.{put_part}
use Rattle.sizes.specs.declared.Block.{Block}
use Rattle.accept.specs.declared.Palette.{Palette}
use Rattle.search.specs.Search.{Searches}
use Rattle.strip.specs.declared.Places.{Places}
use Rattle.strip.specs.Steps.{Fits, Outside, SearchesAt}

-- as many elements are back as were lent
module _ (from to size : ℕ) (old new : List ℕ) (is : to ≡ from + size) (inside : to ≤ length old)
    (count : length new ≡ length (mid_of from (to - from) old)) where
  same : length new ≡ to - from
  same = count ∙ mid_len from to old inside

  inside_is : part (put_mid from (to - from) old new) from size ≡ new
  inside_is =
      let k : size ≡ to - from = omega arith in
      rw k (put_part from to old new (omega arith) inside same)

  outside : Outside from size old (put_mid from (to - from) old new)
  outside =
      record {
        front = take_put from (to - from) old new (omega arith);
        behind = rw (← is) (drop_put from to old new (omega arith) inside same);
      }

module _ (samples costs : List Float) (b : Block) (at end : Places) (map₀ cells flags₀ lines : List ℕ) (r : Palette)
    (fits : Fits b at (length samples) (length map₀) (length flags₀))
    (is : end ≡ record { cells = at.cells + b.width * b.height; lines = at.lines + max b.width b.height }) where
  abbrev size : ℕ
  size = end.cells - at.cells

  abbrev longer : ℕ
  longer = end.lines - at.lines

  pub searches_at : length cells ≡ length (mid_of at.cells size map₀) → length lines ≡ length (mid_of at.lines longer flags₀)
      → Searches (part samples at.cells size) costs b (part map₀ at.cells size) cells (part flags₀ at.lines longer) lines r
      → SearchesAt samples costs b at map₀ (put_mid at.cells size map₀ cells) flags₀ (put_mid at.lines longer flags₀ lines) r
  searches_at c l s =
      let cells_end = ap (λ (p : Places). p.cells) is in
      let lines_end = ap (λ (p : Places). p.lines) is in
      let mapped : end.cells ≤ length map₀ = omega (arith, cells_end, fits.mapped) in
      let lined : end.lines ≤ length flags₀ = omega (arith, lines_end, fits.lined) in
      let k : b.width * b.height ≡ size = omega (arith, cells_end) in
      let n : max b.width b.height ≡ longer = omega (arith, lines_end) in
      record {
        search = rw (
          inside_is at.cells end.cells (b.width * b.height) map₀ cells cells_end mapped c,
          inside_is at.lines end.lines (max b.width b.height) flags₀ lines lines_end lined l,
          k,
          n,
        ) s;
        cells = outside at.cells end.cells (b.width * b.height) map₀ cells cells_end mapped c;
        signs = outside at.lines end.lines (max b.width b.height) flags₀ lines lines_end lined l;
      }
