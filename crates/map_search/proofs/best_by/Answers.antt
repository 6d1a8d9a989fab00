use mathlib.Core.Path.{◌∙◌}
use native.Mathlib.Omega.{arith}
use Rattle.map_search.proofs.Constants.{best_same}
use Rattle.map_search.proofs.Neighbours.{told}
use Rattle.map_search.proofs.best_by.Goals as goal

pub rates-rates-requires : goal.rates-rates-requires
rates-rates-requires c =
    let a = c.args in
    let r = c.requires.le_n in
    (r.0, r.1, (told a.map.now a.s a.l 0 a.n a.m r.4 r.3 (r.0, r.1)).1, r.2)

pub constant-zero-requires : goal.constant-zero-requires
constant-zero-requires c =
    let a = c.args in
    let r = c.requires.le_n in
    (omega arith, (told a.map.now a.s a.l 0 a.n a.m r.4 r.3 (r.0, r.1)).0.fits.0)

pub best_const-requires : goal.best_const-requires
best_const-requires c =
    let a = c.args in
    let r = c.requires.le_n in
    (r.1, (told a.map.now a.s a.l 0 a.n a.m r.4 r.3 (r.0, r.1)).0.fits.0)

pub returns : goal.returns
returns c =
    let a = c.args in
    let r = c.requires.le_n in
    c.best_const.ensures
    ∙ rw (
      c.first_of-from.ensures,
      c.row_cost-copy.ensures,
      c.constant-zero.ensures,
      c.row_cost-row.ensures,
      c.const_dists-dists.ensures,
      c.rates-rates.ensures,
      r.4,
    )
    (best_same a.src.now a.costs.now a.colors.now a.n a.lambda a.s (omega (arith, r.0)) r.1 a.map.now a.l a.ctx r.3)
