use mathlib.Core.Path.{◌≡◌}
use mathlib.Core.List.{[]}
use Rattle.reader.specs.Steps.{left}
use Rattle.read_colors.specs.Colors.{read_cache}
use Rattle.read_colors.proofs.Bits.{CacheInv}
use Rattle.read_colors.proofs.read_cache.Given as goal

abbrev pub invariant-loop-entry : goal.invariant-loop-entry
invariant-loop-entry l =
    CacheInv (read_cache l.cache l.n [] (left l.initial.words)) l.cache l.n l.held (left l.words) l.entry-index
    × (l.words.words ≡ l.initial.words.words)
