use Rattle.emit.specs.Lines.{length_in}
use Rattle.emit.proofs.Lines.{sent_few}
use Rattle.emit.proofs.Coder.emit_line.Goals as goal

pub emit_sent-requires-clause-l_bound : goal.emit_sent-requires-clause-l_bound
emit_sent-requires-clause-l_bound c =
    let m = c.args.self.now.map in
    (c.requires.l_bound, rw (c.sent_cells.ensures, c.length_of-len.ensures) (sent_few c.args.flag (length_in m) m.lines.0))
