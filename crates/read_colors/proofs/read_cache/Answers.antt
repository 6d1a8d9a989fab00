use mathlib.Core.Path.{◌∙◌}
use native.Mathlib.Omega.{arith}
use Rattle.reader.proofs.Steps.{passed_on}
use Rattle.read_colors.proofs.Bits.{cache_stop, cache_past, cache_fault, cache_turn}
use Rattle.read_colors.proofs.read_cache.Goals as goal

pub returns-in_err-held-clause-reads : goal.returns-in_err-held-clause-reads
returns-in_err-held-clause-reads c =
    passed_on _ _ _ _ _ c.from_residual.ensures.1
    (cache_fault _ _ _ _ _ _ c.loop-entry.invariant.0 c.loop-entry-test.true (omega arith) _ c.in_err-held.ensures.reads)

pub loop-entry-preserved : goal.loop-entry-preserved
loop-entry-preserved c = (
  cache_turn _ _ _ _ _ _ c.loop-entry.invariant.0 c.loop-entry-test.true (omega arith) _ _ c.in_ok-held.ensures.reads c.in_ok-held.ensures.few,
  c.in_ok-held.ensures.list ∙ c.loop-entry.invariant.1,
)

pub returns-after-loop-entry-clause-reads : goal.returns-after-loop-entry-clause-reads
returns-after-loop-entry-clause-reads c = cache_past _ _ _ _ _ _ c.loop-entry.invariant.0 (omega arith)

pub returns-then-n-held-clause-reads : goal.returns-then-n-held-clause-reads
returns-then-n-held-clause-reads c = cache_stop _ _ _ _ _ _ c.loop-entry.invariant.0 c.if-n-held.true
