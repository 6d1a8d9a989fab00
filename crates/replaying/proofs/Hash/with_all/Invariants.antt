use Rattle.std.proofs.Common.{◌≡◌, ℕ, List, take}
use Rattle.replaying.specs.Hash.{hashed, Words}
use Rattle.replaying.proofs.Hash.with_all.Given as goal

abbrev pub invariant-loop-word : goal.invariant-loop-word
invariant-loop-word g l = (ws : List ℕ) × Words g.T.Into.converts (take l.word-index l.words) ws × (l.hash.value ≡ hashed l.fn.self.value ws)
