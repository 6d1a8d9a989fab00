use Rattle.scan.specs.Scan.{fill}
use mathlib.Core.Path.{◌≡◌}
use Rattle.scan.proofs.Scan.fill_line.Given as goal

abbrev pub invariant-loop-a : goal.invariant-loop-a
invariant-loop-a l = l.map ≡ fill l.self l.l (λ b. l.i) l.initial.map l.a
