use mathlib.Core.Path.{◌≡◌, refl, ◌∙◌}
use native.Mathlib.Omega.{arith}
use Rattle.reader.proofs.Steps.{passed_on}
use Rattle.read_map.proofs.Lines.{lines_start, lines_end, lines_unflagged, lines_fault, lines_turn}
use Rattle.read_map.proofs.Plan.read_lines.Goals as goal

pub loop-l-init : goal.loop-l-init
loop-l-init c = (lines_start _ _ _ _ _ c.requires.ready.below, refl)

pub returns-in_err-flag-clause-reads : goal.returns-in_err-flag-clause-reads
returns-in_err-flag-clause-reads c =
    passed_on _ _ _ _ _ c.from_residual.ensures.1
    (lines_unflagged _ _ _ _ _ _ _ _ _ _ c.loop-l.invariant.0 _ c.flag_limit.ensures.0 c.loop-l-test.true _ c.in_err-flag.ensures.reads)

pub returns-in_err-read_sent-clause-reads : goal.returns-in_err-read_sent-clause-reads
returns-in_err-read_sent-clause-reads c =
    passed_on _ _ _ _ _ c.from_residual-in_err-read_sent.ensures.1
    (lines_fault _ _ _ _ _ _ _ _ _ _ c.loop-l.invariant.0 _ c.flag_limit.ensures.0 c.loop-l-test.true
    _ _ c.in_ok-flag.ensures.reads _ c.in_err-read_sent.ensures.reads)

pub loop-l-preserved : goal.loop-l-preserved
loop-l-preserved c = (
  lines_turn _ _ _ _ _ _ _ _ _ _ c.loop-l.invariant.0 _ c.flag_limit.ensures.0
      (omega (arith, c.loop-l-test.true, c.loop-l.auto.flags, c.requires.flag_each))
      _ _ c.in_ok-flag.ensures.reads _ _ c.in_ok-read_sent.ensures.reads c.in_ok-read_sent.ensures.below
      (omega (arith, c.in_ok-flag.ensures.below, c.flag_limit.ensures.2)),
  c.in_ok-read_sent.ensures.list ∙ c.in_ok-flag.ensures.list ∙ c.loop-l.invariant.1,
)

pub returns-clause-reads : goal.returns-clause-reads
returns-clause-reads c =
    let same : c.loop-l.l ≡ c.args.self.now.scan.lines = omega arith in
    lines_end _ _ _ _ _ _ _ _ _ _ c.loop-l.invariant.0 same
