use Prim.Native.Nat.{ℕ, ◌*◌, ◌≤◌}
use mathlib.Core.Bool.{Bool, true}
use mathlib.Core.Path.{◌≡◌, sym, ap, ◌∙◌}
use native.Mathlib.Nat.{mul-le-mul}
use lib.ListN.{replicate}
use lib.Seq.{length-take-le}
use Rattle.lists.proofs.Zeros.{take_zeros}
use Rattle.context.specs.Map.{lines_of}
use Rattle.scan.proofs.Scans.{lines_are, lines_most}
use Rattle.accept.specs.Accepted.{sides_ok}
use Rattle.accept.proofs.Accepted.{sides_at}
use Rattle.reading.proofs.read_behind.Goals as goal

cells_few : (w h : ℕ) → sides_ok w h ≡ true → w * h ≤ 4096
cells_few w h e = let z = sides_at w h e in mul-le-mul z.0.1 z.1.1

lines_few : (t : Bool) (w h count : ℕ) → sides_ok w h ≡ true → count ≡ lines_of t w h → count ≤ 64
lines_few t w h count e f = let z = sides_at w h e in lines_most t w h 64 f z.0.1 z.1.1

pub slice_bounds-cells-end : goal.slice_bounds-cells-end
slice_bounds-cells-end c = cells_few _ _ c.requires.headed.sides

pub slice_bounds-read_by-end : goal.slice_bounds-read_by-end
slice_bounds-read_by-end c = sym (length-take-le {A = ℕ} _ (replicate 4096 0) (cells_few _ _ c.requires.headed.sides))

pub slice_bounds-lines-end : goal.slice_bounds-lines-end
slice_bounds-lines-end c = lines_few _ _ _ _ c.requires.headed.sides c.lines_of-count.ensures

pub slice_bounds-read_by-end-2 : goal.slice_bounds-read_by-end-2
slice_bounds-read_by-end-2 c =
    sym (length-take-le {A = ℕ} _ (replicate 64 0) (lines_few _ _ _ _ c.requires.headed.sides c.lines_of-count.ensures))

pub read_by-requires-clause-blank : goal.read_by-requires-clause-blank
read_by-requires-clause-blank c =
    let b = c.args.b.now in
    let count = c.lines_of-count.ensures ∙ sym (lines_are b.width b.height b.transposed).0 in record {
      no_cell = take_zeros _ 4096 (cells_few _ _ c.requires.headed.sides);
      no_line = take_zeros _ 64 (lines_few _ _ _ _ c.requires.headed.sides c.lines_of-count.ensures)
          ∙ ap (λ k. replicate {A = ℕ} k 0) count;
    }
