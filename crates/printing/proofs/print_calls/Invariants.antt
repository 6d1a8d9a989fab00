use mathlib.Core.Path.{◌≡◌}
use Prim.Native.Nat.{◌+◌, ◌*◌}
use lib.ListN.{drop}
use Rattle.lists.specs.Written.{written}
use Rattle.printing.specs.Printing.{call_lines}
use Rattle.printing.proofs.print_calls.Given as goal

abbrev pub invariant-loop-call : goal.invariant-loop-call
invariant-loop-call l =
    (l.pos ≡ l.at + 25 * l.call-index)
    × (written l.out l.pos (call_lines (drop l.call-index l.calls)) ≡ written l.initial.out l.at (call_lines l.calls))
