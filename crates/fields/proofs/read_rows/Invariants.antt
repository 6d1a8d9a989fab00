use Rattle.lists.specs.Written.{written}
use Prim.Native.Nat.{◌≤◌, ◌+◌, ◌-◌, ◌*◌}
use Rattle.fields.specs.Fields.{row_numbers, cut}
use mathlib.Core.Path.{◌≡◌}
use Rattle.fields.proofs.read_rows.Given as goal

abbrev pub invariant-loop-y : goal.invariant-loop-y
invariant-loop-y l =
    (l.p ≤ l.at + 513 * l.y)
    × (written l.out (l.y * l.w) (cut 255 (row_numbers l.s l.p l.w (l.h - l.y))) ≡ written l.initial.out 0 (cut 255 (row_numbers l.s l.at l.w l.h)))
