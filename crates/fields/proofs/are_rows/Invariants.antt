use Prim.Native.Nat.{◌≤◌, ◌+◌, ◌-◌, ◌*◌}
use Rattle.fields.specs.Fields.{are_rows}
use mathlib.Core.Path.{◌≡◌}
use Rattle.fields.proofs.are_rows.Given as goal

abbrev pub invariant-loop : goal.invariant-loop
invariant-loop l =
    (l.p ≤ l.at + 513 * l.counter) × (are_rows l.limit l.s l.p l.w (l.h - l.counter) ≡ are_rows l.limit l.s l.at l.w l.h)
