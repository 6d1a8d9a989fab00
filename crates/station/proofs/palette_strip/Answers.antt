use Rattle.station.proofs.Rows.{answers_few}
use Rattle.station.proofs.palette_strip.Goals as goal

pub in_rows-requires : goal.in_rows-requires
in_rows-requires c =
    answers_few _ _ _ _ _ _ _ _ _ _ _ c.search_strip-strip.ensures.searched

pub returns : goal.returns
returns c =
    let strip = c.search_strip-strip in
    record {
      answers = strip.result.answers;
      strips = strip.ensures;
      fields = c.in_rows.ensures;
      counted = c.in_pairs.ensures;
    }
