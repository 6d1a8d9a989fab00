use mathlib.Core.Path.{◌≡◌, ◌∙◌, ap}
use Prim.Native.Nat.{◌+◌, ◌-◌}
use native.Mathlib.Omega.{arith}
use native.Mathlib.Nat.{le_antisymm}
use Prim.Native.Nat.{zero-le}
use lib.Count.{leading_le}
use Rattle.counts.specs.Counts.{ceil_log2}
use Rattle.counts.proofs.Log.{ceil_least, digits}
use Rattle.counts.proofs.ceil_log2.Goals as goal

pub returns-then-v-le1 : goal.returns-then-v-le1
returns-then-v-le1 c = le_antisymm zero-le (ceil_least c.args.v 0 c.if-v-le1.true)

pub overflow_sub-result-2 : goal.overflow_sub-result-2
overflow_sub-result-2 c = leading_le 32 _

pub returns : goal.returns
returns c =
    let v = c.args.v in
    let e : v - 1 + 1 ≡ v = omega arith in
    digits (v - 1) (omega arith) (omega arith) ∙ ap ceil_log2 e
