use mathlib.Core.Path.{sym, ◌∙◌}
use lib.ListN.{length}
use Rattle.reading.proofs.Answers.{reads_err, limited, passed_on, judged_fault, sizes}
use Rattle.reading.proofs.Ahead.{colors_first, orient_next, headed}
use Rattle.reading.proofs.read_into.Goals as goal

pub returns-in_err-limits : goal.returns-in_err-limits
returns-in_err-limits c = reads_err _ _ _ _ _ c.from_residual.ensures.1 (limited _ _ _ _ _ _ _ _ c.in_err-limits.ensures)

pub read_colors-requires : goal.read_colors-requires
read_colors-requires c = (sizes _ _ _ _ _ _ (sym c.in_ok-limits.ensures)).deep

pub returns-in_err-held : goal.returns-in_err-held
returns-in_err-held c =
    reads_err _ _ _ _ _ c.from_residual-in_err-held.ensures.1
    (passed_on _ _ _ _ _ _ _ (sym c.in_ok-limits.ensures)
    ∙ judged_fault _ _ _ _ _ _ (colors_first _ _ _ _ _ _ c.in_err-held.ensures.reads))

pub returns-in_err-transposed : goal.returns-in_err-transposed
returns-in_err-transposed c =
    reads_err _ _ _ _ _ c.from_residual-in_err-transposed.ensures.1
    (passed_on _ _ _ _ _ _ _ (sym c.in_ok-limits.ensures)
    ∙ judged_fault _ _ _ _ _ _ (orient_next _ _ _ _ _ _ _ c.in_ok-held.ensures.reads _ c.in_err-transposed.ensures.reads))

pub read_behind-requires-clause-headed : goal.read_behind-requires-clause-headed
read_behind-requires-clause-headed c =
    headed _ (sizes _ _ _ _ _ _ (sym c.in_ok-limits.ensures)).inside c.in_ok-held.ensures.two _ c.in_ok-held.ensures.reads c.in_ok-transposed.ensures.reads

pub read_behind-requires-clause-room : goal.read_behind-requires-clause-room
read_behind-requires-clause-room c =
    let z = sizes _ _ _ _ _ _ (sym c.in_ok-limits.ensures) in
    (z.room, z.rows)

pub returns : goal.returns
returns c =
    rw (passed_on c.args.width c.args.height c.args.bd c.args.cache.now (length c.args.map.now) (length c.args.flags.now) c.args.words.now
    (sym c.in_ok-limits.ensures)) c.read_behind.ensures
