use mathlib.Core.Path.{◌≡◌}
use native.Mathlib.Omega.{arith}
use lib.ListN.{length, take}
use lib.Seq.{length-take-le}
use Rattle.sizes.proofs.Parts.{has_levels, tables_for, levels_ok_holds, size_is}
use Rattle.sizes.proofs.Sizes.size_of.Goals as goal

pub groups_of-error-requires : goal.groups_of-error-requires
groups_of-error-requires c =
    let known = c.args.self.now.known in
    let fit = c.requires in
    (fit.1, fit.2, has_levels known c.args.k fit, tables_for known c.args.k fit)

pub head_of-head-requires : goal.head_of-head-requires
head_of-head-requires c =
    let fit = c.requires in
    let g = c.groups_of-error in
    let colors = g.result.colors in
    let eight : length colors ≡ 8 = omega arith in
    let all : length (take c.args.k colors) ≡ c.args.k = length-take-le c.args.k colors (omega arith) in
    (omega arith, omega arith, levels_ok_holds c.args.self.now.known c.args.k fit g.result g.ensures)

pub returns : goal.returns
returns c =
    let g = c.groups_of-error in
    let head = c.head_of-head in
    size_is c.args.self.now.known c.args.k c.requires g.result head.result c.narrow.result c.lb_of.result g.ensures
    head.ensures c.narrow.ensures c.lb_of.ensures
