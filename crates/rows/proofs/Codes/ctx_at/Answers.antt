use native.Mathlib.Omega.{arith}
use Rattle.rows.proofs.Laws.{rank_eight}
use Rattle.rows.proofs.Codes.ctx_at.Goals as goal

pub returns : goal.returns
returns c =
    omega (arith, c.code_at.ensures, rank_eight c.args.row 0 c.requires (omega arith))
