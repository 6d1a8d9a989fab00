use mathlib.Core.Path.{◌≡◌, refl}
use mathlib.Core.Bool.{true, false}
use Prim.Native.Nat.{suc, ◌+◌, ◌-◌}
use native.Mathlib.Omega.{arith}
use lib.Ieee.{of_bits, div, lt}
use Rattle.groups.specs.Groups.{first_of}
use Rattle.groups.proofs.Prefixes.best_cut.Goals as goal
use Rattle.groups.proofs.Prefixes.best_cut.Goals.{then-c-b, else-c-b}

pub loop-i-init : goal.loop-i-init
unfolding first_of of_bits div
loop-i-init c = let none : c.args.k - c.args.k ≡ 0 = omega arith in (omega arith, rw none refl)

pub loop-i-preserved : goal.loop-i-preserved
unfolding first_of
loop-i-preserved c =
    let l = c.loop-i in
    let k = c.args.k in
    let more : l.i + 1 - k ≡ suc (l.i - k) = omega arith in
    let at : k + (l.i - k) ≡ l.i = omega arith in (
      omega arith,
      rw more (elim c.if-c-b.branch [
        | then-c-b w ↦ let less : lt _ l.b.cost ≡ true = w.if-c-b.true in
            rw (w.b-is, at, ← l.invariant.1, ← c.cost.ensures, less) refl
        | else-c-b w ↦ let not-less : lt _ l.b.cost ≡ false = w.if-c-b.false in
            rw (w.b-is, at, ← l.invariant.1, ← c.cost.ensures, not-less) refl
      ]),
    )

pub returns : goal.returns
returns c =
    let l = c.loop-i in
    let e : l.i - c.args.k ≡ c.args.j - c.args.k = omega arith in
    rw (← e) l.invariant.1
