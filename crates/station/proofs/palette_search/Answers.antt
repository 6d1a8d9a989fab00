use mathlib.Core.Path.{ap, ◌∙◌}
use Rattle.accept.specs.declared.Palette.{Palette}
use Rattle.search.proofs.Answer.{few_colors}
use Rattle.station.specs.Searched.{fields_of, bits_of}
use Rattle.station.proofs.palette_search.Goals as goal

pub in_fields-requires : goal.in_fields-requires
in_fields-requires c = few_colors _ _ _ _ _ _ _ _ c.search-answer.ensures

pub returns : goal.returns
returns c =
    let a = c.search-answer.ensures in
    record {
      number = ap (λ (p : Palette). p.number) a.answer;
      fields = c.in_fields.ensures ∙ ap (λ (p : Palette). fields_of p.n p.colors p.transposed) a.answer;
      counted = ap bits_of a.answer;
      cells = a.cells;
      signs = a.signs;
    }
