use Prim.Native.Nat.{◌-◌}
use mathlib.Core.Path.{◌≡◌}
use Rattle.scan.specs.Scan.{cell_in}
use Rattle.map_search.specs.Lines.{dist_line}
use Rattle.map_search.proofs.Distances.copy_dist.Given as goal

abbrev pub invariant-loop-a : goal.invariant-loop-a
invariant-loop-a l = l.t ≡ dist_line l.self.samples.now l.self.colors.now l.s l.l (λ b. cell_in l.map l.s (l.l - 1) b) l.a
