use Rattle.groups.specs.Tables.{Filled}
use Rattle.groups.proofs.Prefixes.fill_row.Given as goal

-- The invariant: the row is filled up to column j.
abbrev pub invariant-loop-j : goal.invariant-loop-j
invariant-loop-j l =
    Filled l.self.w l.self.s l.self.q l.k l.j l.initial.tables.costs l.tables.costs l.initial.tables.cuts l.tables.cuts
