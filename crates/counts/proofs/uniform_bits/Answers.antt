use mathlib.Core.Path.{◌≡◌}
use Prim.Native.Nat.{◌+◌, ◌-◌, ◌*◌, ◌%◌, ◌^◌, ◌≤◌}
use native.Mathlib.Omega.{arith}
use lib.Count.{count_leading_zeros, leading_le}
use borrow.Author.Tests.{lt-ltb, le-ltb}
use Rattle.counts.specs.Counts.{least_bits, ceil_log2, uniform_bits}
use Rattle.counts.proofs.Log.{digits, digits_pos, ceil_reaches, shifted}
use Rattle.lists.proofs.Choice.{cond_same}
use Rattle.counts.proofs.uniform_bits.Goals as goal

-- l as the code counts it, and its power above n
l_of : (c : goal.Else-n-eq0) → 32 - count_leading_zeros 32 c.args.n ≡ ceil_log2 (c.args.n + 1)
l_of c = digits c.args.n (omega arith) (omega arith)

above : (c : goal.Else-n-eq0) → c.args.n + 1 ≤ 2 ^ (32 - count_leading_zeros 32 c.args.n)
above c = rw (l_of c) (ceil_reaches (c.args.n + 1) (omega arith))

short_is : (c : goal.Else-n-eq0) → 1 * 2 ^ (32 - count_leading_zeros 32 c.args.n) % 2 ^ 64 ≡ 2 ^ (32 - count_leading_zeros 32 c.args.n)
short_is c = shifted (32 - count_leading_zeros 32 c.args.n) (omega arith)

pub returns-then-n-eq0 : goal.returns-then-n-eq0
unfolding uniform_bits ceil_log2 least_bits
returns-then-n-eq0 c = rw c.if-n-eq0.true (simp cond_same)

pub overflow_sub-l : goal.overflow_sub-l
overflow_sub-l c = leading_le 32 c.args.n

pub overflow_sub-short : goal.overflow_sub-short
overflow_sub-short c = rw (short_is c) (omega (arith, above c))

pub overflow_sub-result : goal.overflow_sub-result
overflow_sub-result c = digits_pos c.args.n (omega arith) (omega arith)

pub returns-then-v-short : goal.returns-then-v-short
unfolding uniform_bits
returns-then-v-short c =
    rw (← l_of c.before) (simp (lt-ltb _ (2 ^ (32 - count_leading_zeros 32 c.args.n) - _) (rw (short_is c.before) at c.if-v-short.true)))

pub returns-else-v-short : goal.returns-else-v-short
unfolding uniform_bits
returns-else-v-short c =
    rw (← l_of c.before) (simp (le-ltb _ (2 ^ (32 - count_leading_zeros 32 c.args.n) - _) (rw (short_is c.before) at c.if-v-short.false)))
