-- A context's number. Assumes nothing.
use mathlib.Core.List.{List}
use Prim.Native.Nat.{ℕ, ◌<◌}
use native.Mathlib.Omega.{arith}
use Rattle.lists.proofs.Choice.{either_way}
use Rattle.context.specs.Order.{by_three, around}
use Rattle.color_ctx.specs.Context.{context_ok, answered, refused, context_of}
use Rattle.color_ctx.specs.declared.Context.{Context}
use Rattle.context.proofs.Around.{around_ctx}

pub context_small : (map : List ℕ) (s y x n : ℕ) → (context_of map s y x n).ctx < 5
unfolding context_of answered
context_small map s y x n =
    either_way (λ (c : Context). c.ctx < 5) (context_ok map s y x n) (answered (around by_three map s y x) n) refused
    (around_ctx map s y x) (omega arith)
