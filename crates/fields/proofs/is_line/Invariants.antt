use Prim.Native.Nat.{◌+◌, ◌-◌, ◌*◌}
use Rattle.fields.specs.Fields.{is_line}
use mathlib.Core.Path.{◌≡◌}
use Rattle.fields.proofs.is_line.Given as goal

abbrev pub invariant-loop-i : goal.invariant-loop-i
invariant-loop-i l = is_line l.limit l.s (l.at + 8 * l.i) (l.k - l.i) ≡ is_line l.limit l.s l.at l.k
