use mathlib.Core.Path.{refl}
use Rattle.lists.specs.Counted.{elem}
use Rattle.context.specs.Order.{choose, by_three, others, order_of}
use Rattle.rows.specs.Rows.{rows_from, next_table}
use Rattle.rows.proofs.Nexts.new.Goals as goal

pub returns : goal.returns
unfolding next_table rows_from order_of by_three choose others elem
returns c = refl
