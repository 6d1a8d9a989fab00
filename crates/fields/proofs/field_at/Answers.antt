use Rattle.lists.proofs.Rest.{one_left, none_left}
use native.Mathlib.Omega.{arith}
use Prim.Native.Nat.{◌+◌}
use Rattle.fields.specs.Fields.{columns, field_at}
use mathlib.Core.Path.{◌≡◌, refl, sym}
use Rattle.fields.proofs.field_at.Goals as goal

pub loop-i-init : goal.loop-i-init
unfolding field_at
loop-i-init c = let e : c.args.at + 0 ≡ c.args.at = omega arith in rw e refl

pub loop-i-preserved : goal.loop-i-preserved
unfolding columns
loop-i-preserved c =
    let l = c.loop-i in
    let p : c.args.at + l.i + 1 ≡ c.args.at + (l.i + 1) = omega arith in
    rw (c.read_column-f.ensures, c.byte_at.ensures, sym p) (rw (one_left 8 l.i c.loop-i-test.true) at l.invariant)

pub returns : goal.returns
unfolding columns
returns c = rw (none_left 8 c.loop-i.i c.loop-i-test.false) at c.loop-i.invariant
