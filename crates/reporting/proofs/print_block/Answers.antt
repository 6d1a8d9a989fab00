use Rattle.reporting.proofs.Lines.{four_then, block_zero, block_more}
use Rattle.printing.proofs.Laws.{length_line, field_then}
use Rattle.lists.specs.Written.{written}
use lib.ListN.{length}
use native.Mathlib.Omega.{arith}
use Prim.Native.Nat.{ℕ}
use mathlib.Core.List.{List, [], ◌∷◌}
use mathlib.Core.Path.{ap, ◌∙◌}
use Rattle.reporting.proofs.print_block.Goals as goal

pub returns-then-b-eq0 : goal.returns-then-b-eq0
returns-then-b-eq0 c =
    let a = c.args in
    let four = c.print_four-at.ensures in
    let end = c.end_line.ensures in
    let e = block_zero a.k a.b c.if-b-eq0.true in
    let n = length_line (a.k ∷ a.b.calls ∷ a.b.cells ∷ a.b.raw ∷ []) in record {
      value = (
        omega (arith, n, ap length e, end.value, four.value),
        omega (arith, end.value, four.value),
      );
      out_after = end.out_after ∙ four_then _ _ _ _ _ _ _ _ _ four.out_after four.value
          ∙ ap (λ (l : List ℕ). written a.out.now 0 l) e;
    }

pub returns : goal.returns
returns c =
    let a = c.args in
    let four = c.print_four-at.ensures in
    let last = c.print_field-end.ensures in
    let end = c.end_line-2.ensures in
    let e = block_more a.k a.b c.if-b-eq0.false in
    let n = length_line (a.k ∷ a.b.calls ∷ a.b.cells ∷ a.b.raw ∷ a.b.number ∷ []) in record {
      value = (omega (arith, n, ap length e, end.value, last.value, four.value), omega (arith, end.value, last.value, four.value));
      out_after = end.out_after ∙ field_then _ _ _ _ _ _ last.out_after last.value ∙ four_then _ _ _ _ _ _ _ _ _ four.out_after four.value
          ∙ ap (λ (l : List ℕ). written a.out.now 0 l) e;
    }
