use mathlib.Core.Path.{refl}
use Rattle.lists.specs.Written.{written}
use Rattle.printing.specs.Printing.{line}
use Rattle.printing.proofs.end_line.Goals as goal

pub returns : goal.returns
unfolding written line
returns c = record { value = refl; out_after = refl }
