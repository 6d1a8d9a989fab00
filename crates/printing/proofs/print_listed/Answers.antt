use native.Mathlib.Omega.{arith}
use mathlib.Core.Path.{◌∙◌}
use mathlib.Core.List.{[], ◌∷◌}
use lib.ListN.{length}
use Rattle.printing.specs.Printing.{listed}
use Rattle.lists.proofs.Written.{then}
use Rattle.printing.proofs.Laws.{length_line, length_listed, field_then}
use Rattle.printing.proofs.print_listed.Goals as goal

pub returns : goal.returns
unfolding listed
returns c =
    let cs = c.args.calls.now in
    let f = c.print_field-end.ensures in
    let e = c.end_line-first.ensures in
    let p = c.print_calls.ensures in record {
      value = omega (arith, length_listed cs, p.value, e.value, f.value);
      out_after = p.out_after
          ∙ then _ _ _ _ _ _ (e.out_after ∙ field_then _ _ _ _ _ _ f.out_after f.value) (omega (arith, e.value, f.value, length_line (length cs ∷ [])));
    }
