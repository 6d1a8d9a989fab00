use Rattle.std.proofs.Common.{◌≡◌, ◌+◌, ◌*◌, refl, arith}
use native.Mathlib.Nat.{sub-zero}
use Rattle.lists.specs.Written.{written}
use Rattle.lists.proofs.Rest.{one_left, none_left}
use Rattle.fields.specs.Fields.{line_numbers}
use Rattle.fields.proofs.read_line.Goals as goal

pub loop-i-init : goal.loop-i-init
loop-i-init g c =
    let place : c.args.from + 0 ≡ c.args.from = omega arith in
    let first : c.args.at + 8 * 0 ≡ c.args.at = omega arith in
    rw (place, first, sub-zero) refl

pub loop-i-preserved : goal.loop-i-preserved
unfolding written line_numbers
loop-i-preserved g c =
    let l = c.loop-i in
    let place : c.args.from + (l.i + 1) ≡ c.args.from + l.i + 1 = omega arith in
    let next : c.args.at + 8 * (l.i + 1) ≡ c.args.at + 8 * l.i + 8 = omega arith in
    rw (c.stored.ensures, c.number_at.ensures, place, next) (rw (one_left c.args.k l.i c.loop-i-test.true) at l.invariant)

pub returns : goal.returns
unfolding written line_numbers
returns g c = let l = c.loop-i in rw (none_left c.args.k l.i c.loop-i-test.false) at l.invariant
