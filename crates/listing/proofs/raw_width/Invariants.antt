use Rattle.std.proofs.Common.{◌≡◌, ◌≤◌, ◌+◌, ◌*◌, drop}
use Rattle.literals.specs.Words.{raw_width_of}
use Rattle.listing.proofs.raw_width.Given as goal

abbrev pub invariant-loop-word : goal.invariant-loop-word
invariant-loop-word l = (l.total ≤ 255 * l.word-index) × (l.total + raw_width_of (drop l.word-index l.words) ≡ raw_width_of l.words)
