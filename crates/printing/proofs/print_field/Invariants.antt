use mathlib.Core.Path.{◌≡◌}
use Rattle.lists.specs.Written.{written}
use Rattle.printing.specs.Printing.{digits}
use Rattle.printing.proofs.print_field.Given as goal

abbrev pub invariant-loop-k : goal.invariant-loop-k
invariant-loop-k l = written l.out l.at (digits l.k l.left) ≡ written l.initial.out l.at (digits 7 l.initial.left)
