use Prim.Native.Nat.{ℕ, ◌+◌}
use native.Mathlib.Omega.{arith}
use mathlib.Core.List.{List}
use mathlib.Core.Logic.{inr}
use mathlib.Core.Path.{refl, sym, subst, ◌∙◌}
use borrow.Author.Rules.{rules}
use lib.ListN.{length-set}
use Rattle.near.specs.Near.{Below}
use Rattle.map_search.specs.Lines.{cells_of}
use Rattle.map_search.proofs.LineCells.{cells_below, cells_by}
use Rattle.map_search.proofs.Search.cell_by_cell.Goals as goal

pub loop-a-init : goal.loop-a-init
unfolding cells_of
loop-a-init c = (refl, refl, refl)

pub one_cell-v-requires : goal.one_cell-v-requires
one_cell-v-requires c =
    let a = c.args in
    let s = a.self.now in
    let p = s.pricing.now in
    let l = c.loop-a in
    let below : Below l.map p.n =
    subst
    (λ (m : List ℕ). Below m p.n)
    (sym l.invariant.0)
    (cells_below s.samples.now p.costs.now p.colors p.n p.lambda s.scan (omega (arith, p.few)) p.few.1
    a.map.now a.l a.row l.a c.requires.2) in
    (omega (arith, c.requires.0, l.invariant.2), c.requires.1, c.loop-a-test.true, below, c.requires.3)

pub returns-then-total-limit : goal.returns-then-total-limit
returns-then-total-limit c =
    let a = c.args in
    let s = a.self.now in
    let p = s.pricing.now in
    let l = c.loop-a in
    let moved = cells_by s.samples.now p.costs.now p.colors p.n p.lambda s.scan a.map.now a.l a.row l.a
    l.map l.cost c.one_cell-v.result c.place-p.result c.add-cost.result l.invariant.0 l.invariant.1 c.one_cell-v.ensures c.place-p.ensures
    c.add-cost.ensures in
    record {
      held = search rules;
      cells = l.a + 1;
      few = omega (arith, c.loop-a-test.true);
      cost = moved.1;
      put = moved.0;
      why = inr (rw c.total.ensures at c.if-total-limit.true);
    }

pub loop-a-preserved : goal.loop-a-preserved
loop-a-preserved c =
    let a = c.args in
    let s = a.self.now in
    let p = s.pricing.now in
    let l = c.loop-a in
    let v = c.one_cell-v in
    let moved = cells_by s.samples.now p.costs.now p.colors p.n p.lambda s.scan a.map.now a.l a.row l.a
    l.map l.cost v.result c.place-p.result c.add-cost.result l.invariant.0 l.invariant.1 v.ensures c.place-p.ensures c.add-cost.ensures in
    (moved.0, moved.1, length-set l.map c.place-p.result v.result.index ∙ l.invariant.2)
