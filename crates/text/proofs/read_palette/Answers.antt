use borrow.Author.Rules.{rules}
use mathlib.Core.Path.{sym}
use Rattle.text.proofs.Sound.{in_form_small}
use Rattle.text.proofs.read_palette.Goals as goal

pub read_body-requires : goal.read_body-requires
read_body-requires c =
    let a = c.args in
    (in_form_small a.s.now a.at _ c.read_header-h.ensures (sym c.in_ok-text_fault.ensures), search rules)

pub returns : goal.returns
returns c =
    let a = c.args in
    let b = c.read_body.ensures in
    let none = sym c.in_ok-text_fault.ensures in record {
      value = c.in_ok-text_fault.ensures;
      header = (c.read_header-h.ensures, in_form_small a.s.now a.at _ c.read_header-h.ensures none);
      colors = b.colors;
      cache = b.cache;
      flags = b.flags;
      map = b.map;
      refused = tt;
    }
