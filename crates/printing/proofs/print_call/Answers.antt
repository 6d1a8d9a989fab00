use native.Mathlib.Omega.{arith}
use mathlib.Core.Path.{◌∙◌}
use Rattle.printing.specs.Printing.{call_line}
use Rattle.printing.proofs.Laws.{field_then}
use Rattle.printing.proofs.print_call.Goals as goal

pub returns : goal.returns
unfolding call_line
returns c =
    let a = c.print_field-second.ensures in
    let b = c.print_field-third.ensures in
    let d = c.print_field-end.ensures in record {
      value = omega arith;
      out_after = c.end_line.ensures.out_after ∙ field_then _ _ _ _ _ _ d.out_after d.value ∙ field_then _ _ _ _ _ _ b.out_after b.value
          ∙ field_then _ _ _ _ _ _ a.out_after a.value;
    }
