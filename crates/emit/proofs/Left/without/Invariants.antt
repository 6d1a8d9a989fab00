use Rattle.std.proofs.Common.{◌≡◌, ◌≤◌, ◌++◌, length, take, drop}
use Rattle.emit.proofs.Remove.{without}
use Rattle.emit.proofs.Left.without.Given as goal

-- what is kept so far, and what is kept of the rest
abbrev pub invariant-loop-color : goal.invariant-loop-color
invariant-loop-color l =
    (l.k ≤ l.color-index) × (length l.left ≡ 8)
    × (take l.k l.left ++ without l.level.0 (drop l.color-index l.color-items) ≡ without l.level.0 l.color-items)
