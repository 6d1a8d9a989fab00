use Rattle.std.proofs.Common.{◌∙◌, arith}
use Rattle.lists.proofs.Written.{written_next}
use Rattle.emit.specs.Lines.{word_in}
use Rattle.emit.proofs.Coder.emit_cells.Goals as goal

pub loop-a-preserved : goal.loop-a-preserved
loop-a-preserved c =
    let s = c.args in
    let l = c.loop-a in
    let p = c.put-pos in (
      omega (arith, p.ensures.0, l.invariant.0),
      p.ensures.1 ∙ rw (l.invariant.1, l.invariant.0, c.line_word.ensures) (written_next (word_in s.self.now.map s.l) s.out.now s.at l.a),
    )
