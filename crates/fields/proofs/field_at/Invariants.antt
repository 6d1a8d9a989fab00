use Prim.Native.Nat.{◌+◌, ◌-◌}
use Rattle.fields.specs.Fields.{columns, field_at}
use mathlib.Core.Path.{◌≡◌}
use Rattle.fields.proofs.field_at.Given as goal

abbrev pub invariant-loop-i : goal.invariant-loop-i
invariant-loop-i l = columns l.s (l.at + l.i) (8 - l.i) l.f ≡ field_at l.s l.at
