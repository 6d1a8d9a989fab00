use Rattle.groups.specs.Tables.{Tabled}
use Rattle.groups.proofs.tables_of.Given as goal

-- The invariant: the rows up to k are filled.
abbrev pub invariant-loop-k : goal.invariant-loop-k
invariant-loop-k l = Tabled l.sums.w l.sums.s l.sums.q l.h.n l.k l.tables.costs l.tables.cuts
