use Rattle.rows.proofs.Laws.{code_in}
use Rattle.rows.proofs.Codes.code_at.Goals as goal

pub returns : goal.returns
returns c =
    rw (c.from.ensures, c.args.self.now.is_table) (code_in c.args.row c.args.index.0 c.requires.0 c.requires.1)
