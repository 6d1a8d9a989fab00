use Rattle.printing.proofs.Laws.{piece_then}
use native.Mathlib.Omega.{arith}
use mathlib.Core.Path.{◌∙◌}
use Rattle.reporting.proofs.print_four.Goals as goal

pub returns : goal.returns
returns c =
    let one = c.print_field-second.ensures in
    let two = c.print_field-third.ensures in
    let three = c.print_field-fourth.ensures in
    let four = c.print_field.ensures in record {
      value = omega (arith, one.value, two.value, three.value, four.value);
      out_after = four.out_after
          ∙ piece_then _ _ _ _ _ _ three.out_after three.value ∙ piece_then _ _ _ _ _ _ two.out_after two.value ∙ piece_then _ _ _ _ _ _ one.out_after one.value;
    }
