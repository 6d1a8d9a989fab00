use Rattle.scan.specs.Scan.{cell_in, fill}
use Prim.Native.Nat.{◌-◌}
use mathlib.Core.Path.{◌≡◌}
use Rattle.scan.proofs.Scan.copy_line.Given as goal

abbrev pub invariant-loop-a : goal.invariant-loop-a
invariant-loop-a l = l.map ≡ fill l.self l.l (λ b. cell_in l.initial.map l.self (l.l - 1) b) l.initial.map l.a
