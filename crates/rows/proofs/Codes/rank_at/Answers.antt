use native.Mathlib.Omega.{arith}
use Rattle.rows.proofs.Laws.{rank_eight}
use Rattle.rows.proofs.Codes.rank_at.Goals as goal

pub returns : goal.returns
returns c =
    omega (arith, c.code_at.ensures, rank_eight c.args.row c.args.index.0 c.requires.0 c.requires.1)
