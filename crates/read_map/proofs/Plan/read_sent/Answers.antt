use Prim.Native.Nat.{◌-◌}
use Rattle.scan.specs.Scan.{place_at, cell_in}
use Rattle.scan.proofs.Fill.{fill_below}
use Rattle.reader.proofs.Steps.{passed_on}
use Rattle.read_map.proofs.Lines.{cells_all, cells_constant, cells_copied}
use Rattle.read_map.proofs.Plan.read_sent.Goals as goal

pub returns-then-flag-eq0-clause-reads : goal.returns-then-flag-eq0-clause-reads
returns-then-flag-eq0-clause-reads c = cells_all _ _ _ _ _ _ _ c.if-flag-eq0.true c.read_cells.ensures.reads

pub returns-in_err-index-clause-reads : goal.returns-in_err-index-clause-reads
returns-in_err-index-clause-reads c =
    passed_on _ _ _ _ _ c.from_residual.ensures.1 (cells_constant _ _ _ _ _ _ _ c.if-flag-eq1.true c.in_err-index.ensures.reads)

pub returns-then-flag-eq1-clause-reads : goal.returns-then-flag-eq1-clause-reads
returns-then-flag-eq1-clause-reads c =
    rw c.fill_line.ensures (cells_constant _ _ _ _ _ _ _ c.if-flag-eq1.true c.in_ok-index.ensures.reads)

pub returns-then-flag-eq1-clause-below : goal.returns-then-flag-eq1-clause-below
returns-then-flag-eq1-clause-below c =
    let p = c.args.self.now in
    rw c.fill_line.ensures
    (fill_below p.scan c.args.l p.n (λ b. c.in_ok-index.index.0) c.args.map.now p.scan.len (λ b. c.in_ok-index.ensures.low) c.requires.ready.below)

pub returns-clause-reads : goal.returns-clause-reads
returns-clause-reads c = rw c.copy_line.ensures (cells_copied _ _ _ _ _ _ c.if-flag-eq0.false c.if-flag-eq1.false)

pub returns-clause-below : goal.returns-clause-below
returns-clause-below c =
    let p = c.args.self.now in
    let before = c.args.map.now in
    rw c.copy_line.ensures
    (fill_below p.scan c.args.l p.n (λ b. cell_in before p.scan (c.args.l - 1) b) before p.scan.len
    (λ b. c.requires.ready.below (place_at p.scan (c.args.l - 1) b)) c.requires.ready.below)
