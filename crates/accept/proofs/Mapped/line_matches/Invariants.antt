use Rattle.std.proofs.Common.{◌≡◌, ◌*◌, eqb}
use Rattle.lists.specs.Counted.{all_below}
use Rattle.accept.specs.Mapped.{cells_in}
use Rattle.accept.proofs.Mapped.line_matches.Given as goal

-- `same` is the test of each place passed. Assumes nothing.
abbrev pub invariant-loop-a : goal.invariant-loop-a
invariant-loop-a l = l.same ≡ all_below (λ k. eqb (cells_in l.self l.l k) (cells_in l.self l.other (k * l.step))) l.a
