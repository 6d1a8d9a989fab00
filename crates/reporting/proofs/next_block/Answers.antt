use mathlib.Core.Path.{sym, ◌∙◌, subst}
use Rattle.blocks.specs.declared.Block.{Block}
use Rattle.blocks.specs.Block.{Few}
use Rattle.blocks.proofs.Few.{refused_few}
use Rattle.reporting.proofs.Lines.{one_too_many, later_block}
use Rattle.reporting.proofs.next_block.Goals as goal

pub returns-then-p-eq9999 : goal.returns-then-p-eq9999
returns-then-p-eq9999 c =
    let start = c.args in
    let e = rw c.number.ensures at c.refuse.ensures in (
      e ∙ one_too_many start.p start.s.now c.if-p-eq9999.true,
      subst (λ (b : Block). Few b) (sym e) (refused_few 19 0),
    )

pub returns : goal.returns
returns c =
    let start = c.args in
    let b = c.take_block.ensures.value in
    (b.0 ∙ later_block start.p start.s.now c.if-p-eq9999.false, b.1)
