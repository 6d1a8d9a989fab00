use mathlib.Core.Path.{◌≡◌}
use Rattle.context.specs.Order.{order_of}
use Rattle.rows.specs.Rows.{around_row}
use Rattle.color_ctx.specs.Context.{ranks_of}
use Rattle.color_ctx.proofs.Filling.{filling}
use Rattle.color_ctx.proofs.answer.Given as goal

abbrev pub invariant-loop-i : goal.invariant-loop-i
invariant-loop-i l = (l.order ≡ filling (order_of (around_row l.row) l.n) l.i) × (l.ranks ≡ filling (ranks_of (around_row l.row) l.n) l.i)
