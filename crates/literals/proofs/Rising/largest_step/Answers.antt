use mathlib.Core.Path.{◌≡◌}
use Prim.Native.Nat.{ℕ, max}
use native.Mathlib.Omega.{arith}
use Rattle.literals.specs.Literals.{largest_step}
use Rattle.literals.proofs.Colors.{more, none, turn}
use Rattle.literals.proofs.Rising.largest_step.Goals as goal

max_assoc : (a b c : ℕ) → max (max a b) c ≡ max a (max b c)
max_assoc a b c = omega arith

pub step-requires : goal.step-requires
step-requires c = (turn _ _ _ _ c.loop-color-test.true c.loop-color.invariant.levels).up

pub loop-color-preserved : goal.loop-color-preserved
unfolding largest_step
loop-color-preserved c =
    let l = c.loop-color in
    let rest = more c.args.self.now.rest.now l.color-index c.loop-color-test.true in
    record {
      levels = (turn _ _ _ _ c.loop-color-test.true l.invariant.levels).left;
      largest = rw (c.max-largest.ensures, c.step.ensures.0, max_assoc) (rw rest at l.invariant.largest);
    }

pub returns : goal.returns
unfolding largest_step
returns c =
    let l = c.loop-color in
    omega (arith, rw (none c.args.self.now.rest.now l.color-index c.loop-color-test.false) at l.invariant.largest)
