use native.Mathlib.Omega.{arith}
use mathlib.Core.Path.{◌≡◌, refl, ◌∙◌}
use Prim.Native.Nat.{suc, ◌-◌, ◌/◌}
use Rattle.lists.specs.Written.{written}
use Rattle.printing.specs.Printing.{digits, field}
use Rattle.printing.proofs.Laws.{last_column}
use Rattle.printing.proofs.print_field.Goals as goal

pub loop-k-preserved : goal.loop-k-preserved
unfolding digits
loop-k-preserved c =
    let l = c.loop-k in
    let e : l.k ≡ suc (l.k - 1) = omega (arith, c.loop-k-test.true) in
    rw c.digit_or_space.ensures (last_column l.out c.args.at (l.k - 1) (l.left / 10) _ ∙ (rw e at l.invariant))

pub returns : goal.returns
unfolding written digits field
returns c =
    let l = c.loop-k in
    let a = c.args in
    let e : l.k ≡ 0 = omega (arith, c.loop-k-test.false) in
    record { value = refl; out_after = (rw e at l.invariant) ∙ rw c.last_digit.ensures (last_column a.out.now a.at 7 (a.v / 10) _) }
