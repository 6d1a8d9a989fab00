-- What all cache entries leave of the colours, and the cache bits one by one. Assumes nothing.
use mathlib.Core.Path.{◌≡◌, refl}
use mathlib.Core.Bool.{true}
use mathlib.Core.List.{List, [], ◌∷◌}
use Prim.Native.Nat.{ℕ, ◌-◌, ◌^◌, ◌<◌, ◌≤◌}
use native.Mathlib.Omega.{arith}
use lib.Dec.{leb}
use lib.ListN.{length}
use Rattle.lists.specs.Counted.{elem, bit}
use Rattle.lists.proofs.Ascending.{Ascending}
use Rattle.literals.specs.Words.{bypass}
use Rattle.literals.specs.Literals.{levels_ok}
use Rattle.literals.proofs.Levels.{levels_ascend, levels_within, levels_both}
use Rattle.emit.specs.Colors.{remove, cache_words, untaken}
use Rattle.emit.proofs.Remove.{ascending_remove, ascends_remove, all_in_remove, length_remove}

pub ascending_untaken : (es cs : List ℕ) → Ascending cs → Ascending (untaken es cs)
unfolding untaken
ascending_untaken [] cs a = a
ascending_untaken (e ∷ es) cs a = ascending_untaken es (remove e cs) (ascending_remove e cs a)

-- what the cache leaves are colours again
pub levels_untaken : (bd : ℕ) (es cs : List ℕ) → levels_ok bd cs ≡ true → levels_ok bd (untaken es cs) ≡ true
unfolding untaken
levels_untaken bd [] cs a = a
levels_untaken bd (e ∷ es) cs a =
    levels_untaken bd es (remove e cs)
    (levels_both bd (remove e cs) (ascends_remove e cs (levels_ascend bd cs a)) (all_in_remove (λ c. leb c (2 ^ bd - 1)) e cs (levels_within bd cs a)))

pub untaken_few : (es cs : List ℕ) → length (untaken es cs) ≤ length cs
unfolding untaken
untaken_few [] cs = omega arith
untaken_few (e ∷ es) cs = omega (arith, untaken_few es (remove e cs), length_remove e cs)

-- ---- the cache bits

pub cache_step : (e : ℕ) (es cs : List ℕ) → 0 < length cs → cache_words (e ∷ es) cs ≡ bypass 1 (bit (elem e cs)) ∷ cache_words es (remove e cs)
unfolding cache_words
cache_step e es [] h = absurd (omega arith)
cache_step e es (c ∷ cs) h = refl

-- once all colours are taken
pub cache_none : (es cs : List ℕ) → length cs ≡ 0 → cache_words es cs ≡ []
unfolding cache_words
cache_none [] cs h = refl
cache_none (e ∷ es) [] h = refl
cache_none (e ∷ es) (c ∷ cs) h = absurd (omega arith)

pub untaken_none : (es cs : List ℕ) → length cs ≡ 0 → untaken es cs ≡ cs
unfolding untaken remove
untaken_none [] cs h = refl
untaken_none (e ∷ es) [] h = untaken_none es [] refl
untaken_none (e ∷ es) (c ∷ cs) h = absurd (omega arith)
