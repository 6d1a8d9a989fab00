use Rattle.std.proofs.Common.{ℕ, ◌≡◌, ◌+◌, ◌*◌, ◌≤◌, ◌<◌, get_or}
use Rattle.emit.specs.Keys.{key_of}
use Rattle.emit.proofs.IndexMap.fill_keys.Given as goal

-- the keys so far
abbrev pub invariant-loop-a : goal.invariant-loop-a
invariant-loop-a l = (i : ℕ) → l.from ≤ i → i < l.a → get_or l.keys i 0 ≡ key_of l.self.cells.now l.self.w (l.first + i * l.step)
