use Rattle.rows.proofs.Laws.{order_in}
use Rattle.rows.proofs.Orders.index_at.Goals as goal

pub returns : goal.returns
returns c =
    rw (c.from.ensures, c.args.self.now.is_table) (order_in c.args.row c.args.rank.0 c.requires.0 c.requires.1)
