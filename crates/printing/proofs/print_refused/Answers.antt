use native.Mathlib.Omega.{arith}
use mathlib.Core.Path.{◌∙◌}
use mathlib.Core.List.{[], ◌∷◌}
use Rattle.printing.specs.Printing.{refused}
use Rattle.printing.proofs.Laws.{length_line, field_then}
use Rattle.printing.proofs.print_refused.Goals as goal

pub returns : goal.returns
unfolding refused
returns c =
    let a = c.print_field-second.ensures in
    let b = c.print_field-end.ensures in record {
      value = omega (arith, length_line (0 ∷ c.args.number ∷ []));
      out_after =
          c.end_line.ensures.out_after ∙ field_then _ _ _ _ _ _ b.out_after b.value ∙ field_then _ _ _ _ _ _ a.out_after a.value;
    }
