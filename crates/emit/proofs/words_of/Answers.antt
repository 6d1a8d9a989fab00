use Rattle.std.proofs.Common.{◌<◌, ◌∙◌, arith, length-set}
use Rattle.emit.proofs.Keys.{filled, code_word}
use Rattle.emit.proofs.words_of.Goals as goal

pub loop-c-preserved : goal.loop-c-preserved
loop-c-preserved c =
    let l = c.loop-c in
    let more : l.c < 40 = omega arith in (
      length-set l.word-items l.c c.call.result ∙ l.invariant.0,
      filled (code_word c.args.n) l.word-items 0 l.c c.call.result (omega (arith, l.invariant.0)) l.invariant.1 c.call.ensures,
    )
