use native.Mathlib.Nat.{sub-zero}
use native.Mathlib.Omega.{arith}
use Prim.Native.Nat.{◌+◌, ◌*◌}
use Rattle.lists.proofs.Rest.{one_left, none_left}
use Rattle.fields.specs.Fields.{is_line}
use mathlib.Core.Path.{◌≡◌, refl}
use Rattle.fields.proofs.is_line.Goals as goal

pub loop-i-init : goal.loop-i-init
loop-i-init c = let e : c.args.at + 8 * 0 ≡ c.args.at = omega arith in rw (e, sub-zero) refl

pub returns-then-not-number_up_to : goal.returns-then-not-number_up_to
unfolding is_line
returns-then-not-number_up_to c =
    let l = c.loop-i in
    let e = (rw (c.number_up_to.ensures, c.field_at.ensures) at c.if-not-number_up_to.true) in
    rw e at (rw (one_left c.args.k l.i c.loop-i-test.true) at l.invariant)

pub loop-i-preserved : goal.loop-i-preserved
unfolding is_line
loop-i-preserved c =
    let l = c.loop-i in
    let next : c.args.at + 8 * (l.i + 1) ≡ c.args.at + 8 * l.i + 8 = omega arith in
    let e = (rw (c.number_up_to.ensures, c.field_at.ensures) at c.if-not-number_up_to.false) in
    rw next (rw e at (rw (one_left c.args.k l.i c.loop-i-test.true) at l.invariant))

pub returns : goal.returns
unfolding is_line
returns c =
    let l = c.loop-i in
    let last : c.args.at + 8 * c.args.k ≡ c.args.at + 8 * l.i = omega arith in
    rw (c.byte_at.ensures, last) (rw (none_left c.args.k l.i c.loop-i-test.false) at l.invariant)
