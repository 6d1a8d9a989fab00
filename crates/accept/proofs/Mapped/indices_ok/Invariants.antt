use Rattle.std.proofs.Common.{◌≡◌, ◌&&◌, ltb, drop}
use Rattle.lists.specs.Counted.{all_in}
use Rattle.accept.proofs.Mapped.indices_ok.Given as goal

-- What was seen and the test of what is left make up the test of all. Assumes nothing.
abbrev pub invariant-loop-index : goal.invariant-loop-index
invariant-loop-index l =
    l.ok && all_in (λ j. ltb j l.n) (drop l.index-index l.index-items) ≡ all_in (λ j. ltb j l.n) l.index-items
