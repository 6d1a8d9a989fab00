use mathlib.Core.Path.{◌≡◌}
use Prim.Native.Nat.{◌-◌, ◌*◌, ◌≤◌}
use Rattle.groups.specs.Tables.{row_at}
use Rattle.groups.specs.Groups.{first_of}
use Rattle.groups.proofs.Prefixes.best_cut.Given as goal

-- The invariant: b is the best of the cuts before i.
abbrev pub invariant-loop-i : goal.invariant-loop-i
invariant-loop-i l =
    (l.i - l.k ≤ l.j - l.k)
    × (l.b ≡ first_of l.self.w l.self.s l.self.q (row_at l.costs (l.k * 33)) l.k l.j (l.i - l.k))
