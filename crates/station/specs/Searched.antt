-- `palette_search` answers as `search`, with n, colours and orientation in an array of ten, and head and map bits in one of two
-- (document 02, L8).
use Rattle.std.specs.Prelude.{◌≡◌, Bool, cond, List, [], ◌∷◌, ◌++◌, ℕ, eqb, length, Float}
use Rattle.lists.specs.Counted.{bit}
use Rattle.lists.specs.Written.{front}
use Rattle.sizes.specs.declared.Block.{Block}
use Rattle.accept.specs.declared.Palette.{Palette}
use Rattle.search.specs.Search.{found_in, answer_of}

abbrev pub fields_of : ℕ → List ℕ → Bool → List ℕ
fields_of n colors transposed = n ∷ (colors ++ (bit transposed ∷ []))

abbrev pub bits_of : Palette → List Float
bits_of p = p.head ∷ p.map_bits ∷ []

pub record SearchesTo (samples costs : List Float) (b : Block) (map₀ map flags₀ flags found : List ℕ) (bits : List Float) (r : ℕ)
    : Type 0 where
  pub number : r ≡ (answer_of samples costs b (length map₀) (length flags₀)).number
  pub fields : let p = answer_of samples costs b (length map₀) (length flags₀) in
      found ≡ fields_of p.n p.colors p.transposed
  pub counted : bits ≡ bits_of (answer_of samples costs b (length map₀) (length flags₀))
  pub cells : map ≡ cond (eqb r 0) (front (found_in samples costs b).map map₀) map₀
  pub signs : flags ≡ cond (eqb r 0) (front (found_in samples costs b).flags flags₀) flags₀
