use Rattle.reporting.proofs.Lines.{four_then, last_is, length_last}
use Rattle.printing.proofs.Laws.{field_then}
use Rattle.lists.specs.Written.{written}
use native.Mathlib.Omega.{arith}
use Prim.Native.Nat.{ℕ}
use mathlib.Core.List.{List}
use mathlib.Core.Path.{ap, ◌∙◌}
use Rattle.reporting.proofs.print_last.Goals as goal

pub returns : goal.returns
returns c =
    let a = c.args in
    let four = c.print_four-four.ensures in
    let fifth = c.print_field-next.ensures in
    let sixth = c.print_field-end.ensures in
    let end = c.end_line.ensures in
    let e = last_is a.p _ _ c.fraction_of-f.ensures in record {
      value = omega (arith, length_last a.p, end.value, sixth.value, fifth.value, four.value);
      out_after = end.out_after ∙ field_then _ _ _ _ _ _ sixth.out_after sixth.value ∙ field_then _ _ _ _ _ _ fifth.out_after fifth.value
          ∙ four_then _ _ _ _ _ _ _ _ _ four.out_after four.value ∙ ap (λ (l : List ℕ). written a.out.now a.at l) e;
    }
