use Rattle.std.proofs.Common.{ℕ, ◌+◌, ◌≡◌, List, length, take, drop}
use Rattle.lists.specs.Written.{written}
use Rattle.emit.specs.Colors.{cache_words, untaken}
use Rattle.emit.specs.declared.Left.{Left}
use Rattle.emit.proofs.emit_cache_bits.Given as goal

abbrev pub colors_of : Left → List ℕ
colors_of left = take left.count left.colors

-- what is left to send, written now, gives the whole
pub record Inv (cache out₀ : List ℕ) (at : ℕ) (left₀ : Left) (out : List ℕ) (left : Left) (pos i : ℕ) : Type 0 where
  pub count : left.count ≡ length (colors_of left)
  pub size : length out ≡ length out₀
  pub place : pos + length (cache_words (drop i cache) (colors_of left)) ≡ at + length (cache_words cache (colors_of left₀))
  pub wrote : written out pos (cache_words (drop i cache) (colors_of left)) ≡ written out₀ at (cache_words cache (colors_of left₀))
  pub kept : untaken (drop i cache) (colors_of left) ≡ untaken cache (colors_of left₀)

abbrev pub invariant-loop-entry : goal.invariant-loop-entry
invariant-loop-entry l = Inv l.cache l.initial.out l.at l.initial.left l.out l.left l.pos l.entry-index
