use mathlib.Core.Path.{sym, ◌∙◌}
use Rattle.reading.proofs.Answers.{outcome_err, judged_fault, judged_more, judged_whole}
use Rattle.reading.proofs.Ahead.{lines_last, scan_ready, none_above}
use Rattle.reading.proofs.read_rest.Goals as goal

pub read_lines-requires-clause-ready : goal.read_lines-requires-clause-ready
read_lines-requires-clause-ready c =
    let blank = c.requires.blank in
    record {
      sound = scan_ready c.args.b.now c.requires.headed _ _ _ c.new.ensures blank;
      below = none_above c.args.b.now c.requires.headed _ _ _ c.new.ensures blank;
    }

pub returns-in_err-read_lines : goal.returns-in_err-read_lines
returns-in_err-read_lines c =
    outcome_err c.args.b.now _ _ _ _ _ c.from_residual.ensures.1
    (judged_fault _ _ _ _ _ _ (lines_last c.args.b.now c.requires.headed _ _ _ c.new.ensures c.requires.blank _ c.in_err-read_lines.ensures.reads))

pub returns-then-reading : goal.returns-then-reading
returns-then-reading c =
    judged_more _ _ _ _ _ _ _ _ (lines_last c.args.b.now c.requires.headed _ _ _ c.new.ensures c.requires.blank _ c.in_ok-read_lines.ensures.reads)
    c.if-reading.true

pub returns-then-not-relists : goal.returns-then-not-relists
returns-then-not-relists c =
    judged_whole _ _ _ _ _ _ _ _ (lines_last c.args.b.now c.requires.headed _ _ _ c.new.ensures c.requires.blank _ c.in_ok-read_lines.ensures.reads)
    c.if-reading.false _ (sym c.if-not-relists.true ∙ c.relists.ensures)

pub returns : goal.returns
returns c =
    judged_whole _ _ _ _ _ _ _ _ (lines_last c.args.b.now c.requires.headed _ _ _ c.new.ensures c.requires.blank _ c.in_ok-read_lines.ensures.reads)
    c.if-reading.false _ (sym c.if-not-relists.false ∙ c.relists.ensures)
