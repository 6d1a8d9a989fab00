use Prim.Native.Nat.{◌<◌}
use mathlib.Core.Path.{◌≡◌, refl, sym, ◌∙◌}
use native.Mathlib.Omega.{arith}
use lib.ListN.{get_or}
use Rattle.rows.specs.Rows.{around_row, row_order}
use Rattle.rows.proofs.Laws.{row_ok_holds, row_length, order_row_is}
use Rattle.cells.specs.Cell.{pick_at, chosen}
use Rattle.cells.proofs.Order.{order_under, order_few}
use Rattle.cells.proofs.Ranked.{chosen_in, picked_first, picked_next, picked_last}
use Rattle.cells.proofs.pick_by.Goals as goal

pub loop-q-init : goal.loop-q-init
loop-q-init c =
    let a = c.args in
    let order = row_order a.row a.n in
    let first : c.candidate-best.result ≡ pick_at a.dists.now a.rates.now a.lambda 0 (get_or order 0 0) =
    c.candidate-best.ensures ∙ rw (order_row_is a.row a.n c.requires.0 c.requires.2 0 c.requires.1) refl in
    rw first (picked_first a.dists.now a.rates.now a.lambda order (omega (arith, row_length a.row a.n c.requires.0 c.requires.2, c.requires.1)))

pub loop-q-preserved : goal.loop-q-preserved
loop-q-preserved c =
    let a = c.args in
    let l = c.loop-q in
    let order = row_order a.row a.n in
    let inside : l.q < a.n = omega arith in
    let next : c.candidate-next.result ≡ pick_at a.dists.now a.rates.now a.lambda l.q (get_or order l.q 0) =
    c.candidate-next.ensures ∙ rw (order_row_is a.row a.n c.requires.0 c.requires.2 l.q inside) refl in
    let turned = picked_next a.dists.now a.rates.now a.lambda order l.q l.best
    (omega (arith, row_length a.row a.n c.requires.0 c.requires.2)) in
    rw (c.better-best.ensures, next) (sym turned ∙ l.invariant)

pub returns : goal.returns
returns c =
    let a = c.args in
    let l = c.loop-q in
    let order = row_order a.row a.n in
    let ok = row_ok_holds a.row a.n c.requires.0 in
    let value : l.best ≡ chosen a.dists.now a.rates.now a.lambda order =
    sym (picked_last a.dists.now a.rates.now a.lambda order l.q l.best
    (omega (arith, row_length a.row a.n c.requires.0 c.requires.2))) ∙ l.invariant in
    record {
      value = value;
      inside = rw value
          (chosen_in a.dists.now a.rates.now a.lambda a.n order c.requires.1 (order_under (around_row a.row) a.n ok)
          (order_few (around_row a.row) a.n ok c.requires.2));
    }
