use Rattle.station.specs.Strip.{pair_at}
use Rattle.station.proofs.Rows.{Begun}
use Rattle.station.proofs.in_pairs.Given as goal

abbrev pub invariant-loop-i : goal.invariant-loop-i
invariant-loop-i l = Begun 2 (pair_at l.fn.answers) l.bits l.i
