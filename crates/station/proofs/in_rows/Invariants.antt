use Rattle.station.specs.Strip.{row_at}
use Rattle.station.proofs.Rows.{Begun}
use Rattle.station.proofs.in_rows.Given as goal

abbrev pub invariant-loop-i : goal.invariant-loop-i
invariant-loop-i l = Begun 11 (row_at l.fn.answers) l.rows l.i
