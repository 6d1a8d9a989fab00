use native.Mathlib.Nat.{sub-zero}
use native.Mathlib.Omega.{arith}
use Rattle.lists.proofs.Rest.{one_left, none_left}
use Rattle.fields.specs.Fields.{are_rows}
use mathlib.Core.Path.{refl, sym, ◌∙◌}
use Rattle.fields.proofs.are_rows.Goals as goal

pub loop-init : goal.loop-init
loop-init c = (omega arith, rw sub-zero refl)

pub returns-then-not-is_line : goal.returns-then-not-is_line
unfolding are_rows
returns-then-not-is_line c =
    let l = c.loop in
    let e = sym c.is_line.ensures ∙ c.if-not-is_line.true in
    rw e at (rw (one_left c.args.h l.counter c.loop-test.true) at l.invariant.1)

pub loop-preserved : goal.loop-preserved
unfolding are_rows
loop-preserved c =
    let l = c.loop in
    let e = sym c.is_line.ensures ∙ c.if-not-is_line.false in
    (omega arith, rw e at (rw (one_left c.args.h l.counter c.loop-test.true) at l.invariant.1))

pub returns : goal.returns
unfolding are_rows
returns c = let l = c.loop in rw (none_left c.args.h l.counter c.loop-test.false) at l.invariant.1
