use native.Mathlib.Omega.{arith}
use Rattle.groups.proofs.Rows.{more}
use Rattle.groups.proofs.Prefixes.fill_row.Goals as goal

pub loop-j-preserved : goal.loop-j-preserved
loop-j-preserved c =
    let l = c.loop-j in
    let a = c.args in
    more _ _ _ a.k l.j a.tables.now.costs l.tables.costs a.tables.now.cuts l.tables.cuts c.best_cut-b.result l.invariant
    c.best_cut-b.ensures (omega arith) (omega arith) (omega arith)
