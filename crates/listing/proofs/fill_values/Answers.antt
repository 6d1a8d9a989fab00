use lib.Ieee.{binary32, of_int}
use lib.IntN.{pos}
use Rattle.std.proofs.Common.{arith, get_or}
use Rattle.listing.proofs.Values.{value_more}
use Rattle.listing.proofs.fill_values.Goals as goal

pub loop-i-preserved : goal.loop-i-preserved
loop-i-preserved c =
    let l = c.loop-i in
    rw (c.value_of.ensures, c.color_of.ensures, l.invariant)
    (value_more (λ k. of_int binary32 (pos (get_or c.args.colors.now k 0))) c.args.map.now c.args.values.now l.i (omega arith) c.requires.map_in_bounds)
