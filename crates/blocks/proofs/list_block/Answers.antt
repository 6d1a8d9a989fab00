use native.Mathlib.Omega.{arith}
use mathlib.Core.Path.{sym, ap, ◌∙◌}
use Rattle.listing.proofs.Answers.{count_few}
use Rattle.blocks.specs.declared.Block.{Block}
use Rattle.blocks.proofs.Listed.{list_refused, list_whole, list_words}
use Rattle.blocks.proofs.list_block.Goals as goal

pub returns-then-l-ne0 : goal.returns-then-l-ne0
returns-then-l-ne0 c =
    let l = rw (c.cells_in-cells.ensures.0, c.lines_in.ensures.0) at c.list-l.ensures in
    let room = c.requires.1 in
    let e = c.refuse.ensures in record {
      value = e ∙ list_refused c.args.taken _ _ _ _ _ _ _ _ room l c.if-l-ne0.true;
      words_after =
          list_words c.args.taken _ _ _ _ _ _ _ _ room l _ (ap (λ (b : Block). b.number) e);
    }

pub overflow_cast-result : goal.overflow_cast-result
overflow_cast-result c = omega (arith, count_few _ _ _ _ _ _ _ _ c.list-l.ensures)

pub returns : goal.returns
returns c =
    let l = rw (c.cells_in-cells.ensures.0, c.lines_in.ensures.0) at c.list-l.ensures in
    let room = c.requires.1 in
    let z = c.if-l-ne0.false in record {
      value = list_whole c.args.taken _ _ _ _ _ _ _ _ room l z _ c.cells_in-cells.ensures.0;
      words_after =
          list_words c.args.taken _ _ _ _ _ _ _ _ room l 0 (sym z);
    }
