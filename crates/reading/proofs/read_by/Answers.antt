use mathlib.Core.Path.{◌∙◌}
use Rattle.reading.specs.Steps.{palette_in}
use Rattle.reading.proofs.Answers.{reads_back}
use Rattle.reading.proofs.Ahead.{answer_is}
use Rattle.reading.proofs.read_by.Goals as goal

pub returns : goal.returns
returns c =
    let b = c.args.b.now in
    let d = c.deliver.ensures in
    let r = c.read_guessed.new in
    reads_back _ (palette_in b r.cells r.lines) _ _ _ _ _ c.in_ok-read_guessed.ensures
    (d.value ∙ answer_is b c.requires.headed r.cells r.lines) d.map_after.0 d.map_after.1
