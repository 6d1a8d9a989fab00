use Rattle.std.proofs.Common.{rules, ◌≡◌, length, ◌<◌, get_or, sym, ◌∙◌, arith}
use Rattle.std.specs.Float.{binary32}
use Rattle.std.proofs.lemmas.List.{ext_get_or, length-map}
use Rattle.std.proofs.Math.ListN.{get_or-map}
use Rattle.ieee.specs.Numbers.{nat}
use Rattle.search.proofs.values.Goals as goal

pub returns : goal.returns
returns c =
    let eight : length c.args.colors ≡ 8 = search rules in
    let m = c.map.ensures.items in
    ext_get_or (nat binary32 0) _ _ (m.long ∙ sym (length-map c.args.colors (nat binary32) ∙ eight)) (λ i l.
    let inside : i < 8 = omega (arith, m.long) in
    let h : get_or c.map.result i (nat binary32 0) ≡ nat binary32 (get_or c.args.colors i 0) = search (rules, m.at i 0 (nat binary32 0) inside) in h ∙ sym (get_or-map (nat binary32) c.args.colors i 0))
