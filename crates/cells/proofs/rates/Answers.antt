use Rattle.cells.specs.Cell.{rates_of}
use Rattle.cells.proofs.rates.Goals as goal

pub returns-then-first : goal.returns-then-first
unfolding rates_of
returns-then-first c = rw c.if-first.true c.uniform_rates.ensures

pub returns : goal.returns
unfolding rates_of
returns c = rw c.if-first.false c.eight_from.ensures
