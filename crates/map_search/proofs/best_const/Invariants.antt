use Prim.Native.Nat.{◌-◌}
use lib.Ieee.{Float}
use mathlib.Core.Path.{◌≡◌}
use Rattle.cells.specs.Cell.{cheapest, total_of}
use Rattle.map_search.specs.declared.Choice.{Choice}
use Rattle.map_search.specs.Parts.{constants_by}
use Rattle.map_search.proofs.best_const.Given as goal

abbrev pub total : Float → Choice → Float
total lambda d = total_of d.cost lambda

abbrev pub invariant-loop-c : goal.invariant-loop-c
invariant-loop-c l =
    let n = l.n in
    (cheapest (total l.lambda) l.best (constants_by l.dists l.rates l.k l.row l.c (n - l.c)) ≡ cheapest (total l.lambda) l.initial.best
    (constants_by l.dists l.rates l.k l.row 0 n))
    × (l.least ≡ total l.lambda l.best)
