use Prim.Native.Nat.{◌+◌}
use mathlib.Core.Path.{refl, ◌∙◌}
use borrow.Author.Tests.{eq-eqb, ne_eqb}
use Rattle.map_search.specs.Lines.{cell_at}
use Rattle.map_search.proofs.Neighbours.{told}
use Rattle.map_search.proofs.Search.one_cell.Goals as goal

pub rates-rates-requires : goal.rates-rates-requires
rates-rates-requires c =
    let a = c.args in
    let p = a.self.now.pricing.now in
    (told a.map.now a.self.now.scan a.l a.a p.n c.key_cell-m.result c.key_cell-m.ensures c.requires.3 p.few).1

pub choose-requires : goal.choose-requires
choose-requires c =
    let a = c.args in
    let p = a.self.now.pricing.now in
    (told a.map.now a.self.now.scan a.l a.a p.n c.key_cell-m.result c.key_cell-m.ensures c.requires.3 p.few).0.fits

pub returns-then-l-a-eq0 : goal.returns-then-l-a-eq0
unfolding cell_at
returns-then-l-a-eq0 c =
    let a = c.args in
    let p = a.self.now.pricing.now in
    let key = (told a.map.now a.self.now.scan a.l a.a p.n c.key_cell-m.result c.key_cell-m.ensures c.requires.3 p.few).0 in
    c.choose.ensures
    ∙ rw (
      c.rates-rates.ensures,
      c.place.ensures,
      key.order,
      key.ctx,
      eq-eqb (a.l + a.a) 0 c.if-l-a-eq0.true,
    )
    refl

pub quick_cell-requires : goal.quick_cell-requires
quick_cell-requires c =
    let a = c.args in
    let p = a.self.now.pricing.now in
    let key = told a.map.now a.self.now.scan a.l a.a p.n c.key_cell-m.result c.key_cell-m.ensures c.requires.3 p.few in
    (key.0.fits, key.1, c.requires.4)

pub returns : goal.returns
unfolding cell_at
returns c =
    let a = c.args in
    let p = a.self.now.pricing.now in
    let key = (told a.map.now a.self.now.scan a.l a.a p.n c.key_cell-m.result c.key_cell-m.ensures c.requires.3 p.few).0 in
    c.quick_cell.ensures
    ∙ rw (c.place.ensures, key.order, key.ctx, ne_eqb (a.l + a.a) 0 c.if-l-a-eq0.false) refl
