use mathlib.Core.Path.{◌≡◌, sym}
use Prim.Native.Nat.{ℕ, ◌%◌, ◌-◌}
use native.Mathlib.Omega.{arith}
use lib.Pow.{shr_le}
use Rattle.samples.proofs.Halves.{even, tie, above}
use Rattle.samples.proofs.half_even.Goals as goal

-- `samples::half_even` meets its contract. Assumes nothing.
odd : (t : ℕ) → (t % 2 ≡ 0 → ⊥) → t % 2 ≡ 1
odd t h = omega arith

pub returns-then-t-eq0 : goal.returns-then-t-eq0
returns-then-t-eq0 c = sym (even c.args.n c.args.s c.requires.0 c.requires.1 c.if-t-eq0.true)

pub overflow_add-result : goal.overflow_add-result
overflow_add-result c = omega (arith, c.requires.0, shr_le c.args.n (c.args.s - 1))

pub returns-then-t-s : goal.returns-then-t-s
returns-then-t-s c =
    sym (tie c.args.n c.args.s c.requires.0 c.requires.1 (odd _ c.if-t-eq0.false) c.if-t-s.true)

pub overflow_add-result-2 : goal.overflow_add-result-2
overflow_add-result-2 c = omega (arith, c.requires.0, shr_le c.args.n (c.args.s - 1))

pub returns : goal.returns
returns c =
    sym (above c.args.n c.args.s c.requires.0 c.requires.1 (odd _ c.if-t-eq0.false) c.if-t-s.false)
