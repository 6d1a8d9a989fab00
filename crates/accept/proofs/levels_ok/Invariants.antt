use Rattle.std.proofs.Common.{◌≡◌, ◌&&◌, drop}
use Rattle.literals.specs.Literals.{levels_ok}
use Rattle.accept.proofs.Levels.{levels_after}
use Rattle.accept.proofs.levels_ok.Given as goal

-- What was seen and the test of what is left, after the last colour seen, make up the test of all. Assumes nothing.
abbrev pub invariant-loop-color : goal.invariant-loop-color
invariant-loop-color l = l.ok && levels_after l.bd l.last.0 (drop l.color-index l.color-items) ≡ levels_ok l.bd l.colors
