use Rattle.std.proofs.Common.{◌≡◌, ℕ, ◌<◌, get_or, true}
use Rattle.accept.specs.Accepted.{line_ok}
use Rattle.accept.specs.Mapped.{cells_in, length_in}
use Rattle.accept.proofs.Mapped.lines_ok.Given as goal

-- Each line passed is as its flag says. Assumes nothing.
abbrev pub invariant-loop-l : goal.invariant-loop-l
invariant-loop-l l = (k : ℕ) → k < l.l → line_ok (get_or l.flag-items k 0) (cells_in l.self) (length_in l.self) k ≡ true
