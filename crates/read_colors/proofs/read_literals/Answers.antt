use mathlib.Core.Path.{◌∙◌}
use native.Mathlib.Omega.{arith}
use Rattle.reader.proofs.Steps.{passed_on}
use Rattle.read_colors.proofs.Climb.{levels, literals_none, literals_whole}
use Rattle.read_colors.proofs.read_literals.Goals as goal

pub returns-then-n-held-clause-reads : goal.returns-then-n-held-clause-reads
returns-then-n-held-clause-reads c = literals_none _ _ c.args.held _ c.if-n-held.true

pub returns-in_err-first-clause-reads : goal.returns-in_err-first-clause-reads
returns-in_err-first-clause-reads c =
    let k = rw (levels c.args.bd (omega arith)) at c.in_err-first.ensures.reads in
    passed_on _ _ _ _ _ c.from_residual.ensures.1 (literals_whole _ _ c.args.held _ c.if-n-held.false _ k)

pub returns-clause-reads : goal.returns-clause-reads
returns-clause-reads c =
    let k = rw (levels c.args.bd (omega arith)) at c.in_ok-first.ensures.reads in
    let i = c.insert.ensures in
    literals_whole _ _ c.args.held _ c.if-n-held.false _ k ∙ rw (← i.inserted, ← i.one_more) c.read_more.ensures.reads
