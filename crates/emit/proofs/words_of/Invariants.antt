use Rattle.std.proofs.Common.{ℕ, ◌≡◌, ◌≤◌, ◌<◌, get_or, length}
use Rattle.emit.proofs.Keys.{code_word}
use Rattle.emit.proofs.words_of.Given as goal

abbrev pub invariant-loop-c : goal.invariant-loop-c
invariant-loop-c l = (length l.word-items ≡ 40) × ((i : ℕ) → 0 ≤ i → i < l.c → get_or l.word-items i 0 ≡ code_word l.n i)
