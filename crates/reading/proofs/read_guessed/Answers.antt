use mathlib.Core.Path.{sym, ◌∙◌}
use Rattle.scan.proofs.Fill.{below_8}
use Rattle.reading.proofs.Ahead.{scan_ready, none_above, flag_each}
use Rattle.reading.proofs.Undo.{judged_back}
use Rattle.reading.proofs.read_guessed.Goals as goal

pub guess_lines-requires : goal.guess_lines-requires
guess_lines-requires c =
    let b = c.args.b.now in
    let blank = c.requires.blank in (
      scan_ready b c.requires.headed _ _ _ c.new-s.ensures blank,
      flag_each b c.requires.headed _ _ _ c.new-s.ensures blank,
      below_8 c.args.cells.now b.held.count (none_above b c.requires.headed _ _ _ c.new-s.ensures blank) b.held.few,
    )

pub returns : goal.returns
returns c = judged_back _ _ _ _ _ _ (sym c.relists-listed.ensures ∙ c.if-not-listed.false)
