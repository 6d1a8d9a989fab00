use mathlib.Core.Path.{ap, ◌∙◌}
use Rattle.accept.specs.declared.Palette.{Palette}
use Rattle.reading.proofs.Few.{few_read}
use Rattle.station.specs.Searched.{fields_of}
use Rattle.station.proofs.palette_read.Goals as goal

pub in_fields-requires : goal.in_fields-requires
in_fields-requires c = few_read _ _ _ _ _ _ _ _ _ _ _ _ c.read-answer.ensures

pub returns : goal.returns
returns c =
    let a = c.read-answer.ensures in
    record {
      number = ap (λ (p : Palette). p.number) a.answered;
      fields = c.in_fields.ensures ∙ ap (λ (p : Palette). fields_of p.n p.colors p.transposed) a.answered;
      cells = a.map;
      signs = a.flags;
    }
