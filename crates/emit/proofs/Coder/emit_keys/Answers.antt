use Rattle.std.proofs.Common.{arith}
use Rattle.emit.proofs.Keys.{extends_next}
use Rattle.emit.proofs.Coder.emit_keys.Goals as goal

pub loop-a-preserved : goal.loop-a-preserved
loop-a-preserved c =
    let l = c.loop-a in
    extends_next _ _ l.a c.args.at _ l.out (omega arith) l.invariant c.word_at.result c.word_at.ensures
