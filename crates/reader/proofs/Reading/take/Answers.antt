use native.Mathlib.Omega.{arith}
use Rattle.std.proofs.lemmas.List.{take_rest}
use Rattle.reader.proofs.Steps.{step_ended, step_below, step_second, step_above}
use Rattle.reader.proofs.Reading.take.Goals as goal

pub returns-in_default-clause-reads : goal.returns-in_default-clause-reads
returns-in_default-clause-reads c = step_ended _ _ _ _ _ c.in_default.ensures.lookup.3

pub returns-then-word-least-clause-reads : goal.returns-then-word-least-clause-reads
returns-then-word-least-clause-reads c =
    let found = c.in-Some.ensures.lookup in
    step_below _ _ _ _ _ found.3.0 _ (found.3.1 0) (omega (arith, c.if-word-least.true, c.call-least.ensures))

-- `take_rest` is for a list cut behind the word alone: what is left is the same, so that such a body is refused for its list
pub returns-then-second-limit-clause-reads : goal.returns-then-second-limit-clause-reads
returns-then-second-limit-clause-reads c =
    let found = c.in-Some.ensures.lookup in
    let least = c.call-least.ensures in
    let step =
    step_second _ _ c.args.kind c.args.first c.args.limit found.3.0 _ (found.3.1 0) (omega (arith, c.if-word-least.false, least))
    (omega (arith, c.if-second-limit.true, least)) in
    rw least (grind (arith, step, take_rest))

pub returns-clause-reads : goal.returns-clause-reads
returns-clause-reads c =
    let found = c.in-Some.ensures.lookup in
    let least = c.call-least.ensures in
    step_above _ _ _ _ _ found.3.0 _ (found.3.1 0) (omega (arith, c.if-word-least.false, least))
    (omega (arith, c.if-second-limit.false, least))
