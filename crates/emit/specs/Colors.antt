-- Document 01, 'Colours': the size symbol, the cache bits, the untaken colours as literals.
use Rattle.std.specs.Prelude.{ℕ, ◌-◌, cond, List, [], ◌∷◌, ◌++◌, eqb, length}
use Rattle.lists.specs.Counted.{elem, bit}
use Rattle.literals.specs.Words.{word, bypass}
use Rattle.literals.specs.Literals.{literal_words}

-- the list without its first e
unfoldable pub remove : ℕ → List ℕ → List ℕ
remove e [] = []
remove e (c ∷ cs) = cond (eqb e c) cs (c ∷ remove e cs)

-- one bit per cache entry, 1 for a colour not yet taken, until none is left; the second list is the untaken colours
unfoldable pub cache_words : List ℕ → List ℕ → List ℕ
cache_words [] cs = []
cache_words (e ∷ es) [] = []
cache_words (e ∷ es) (c ∷ cs) = bypass 1 (bit (elem e (c ∷ cs))) ∷ cache_words es (remove e (c ∷ cs))

-- the colours that no cache entry takes
unfoldable pub untaken : List ℕ → List ℕ → List ℕ
untaken [] cs = cs
untaken (e ∷ es) cs = untaken es (remove e cs)

unfoldable pub color_words : ℕ → List ℕ → List ℕ → List ℕ
color_words bd cache cs = word 3 0 (length cs - 2) ∷ (cache_words cache cs ++ literal_words bd (untaken cache cs))
