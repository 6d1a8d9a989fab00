use mathlib.Core.Path.{sym}
use lib.ListN.{length, take}
use Prim.Native.Nat.{◌≤◌}
use lib.Seq.{length-take-le}
use native.Mathlib.Omega.{arith}
use Rattle.lists.specs.Written.{front}
use Rattle.lists.proofs.Written.{written_front}
use Rattle.lists.proofs.copy_front.Goals as goal

pub returns : goal.returns
unfolding front
returns g c =
    let len = length-take-le c.args.count c.args.from.now c.requires.0 in
    let fits : length (take c.args.count c.args.from.now) ≤ length c.args.to.now = omega (arith, len, c.requires.1) in
    let whole = sym (written_front c.args.to.now (take c.args.count c.args.from.now) fits) in
    rw c.copy_from_slice.ensures.after (rw len at whole)
