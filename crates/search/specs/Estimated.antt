-- Document 01, 'Sizes', its last sentence: the bit estimate of what search found is (head + map bits) × 3. Since document 02's L8
-- an answer holds the two apart.
use Rattle.std.specs.Prelude.{◌≡◌, List, ℕ, Float, Some}
use Rattle.std.specs.Float.{binary32}
use Rattle.std.specs.Float.Ieee.{add, mul, of_bits}
use Rattle.ieee.specs.Numbers.{nat}
use Rattle.groups.specs.Groups.{centers_of}
use Rattle.sizes.specs.declared.Block.{Block}
use Rattle.sizes.specs.Sizes.{head_of, size_of}
use Rattle.accept.specs.declared.Palette.{Palette}
use Rattle.search.specs.Search.{Standing, map_in, histogram_in, found_in, estimate_of, Searches}

-- of an answer
abbrev pub estimate_in : Palette → Float
estimate_in r = estimate_of r.head r.map_bits

-- head is that of the colours handed over, and the map bits are those of the very map and flags handed over
pub record Estimated (samples costs : List Float) (b : Block) (s : Standing) (r : Palette) : Type 0 where
  pub bound : Float
  pub error : Float
  pub bits : Float
  pub walk : map_in samples costs b (size_of costs b (histogram_in samples) r.n) r.transposed bound
      ≡ record { map = s.map; flags = s.flags; result = Some (record { dist = error; rate = bits }) }
  pub figure : let head = head_of costs b (centers_of (histogram_in samples) r.n) in
      (r.head ≡ head) × (r.map_bits ≡ bits) × (estimate_in r ≡ mul binary32 (add binary32 head bits) (nat binary32 3))

-- and it is 0 after a refusal
abbrev pub IsEstimated : Type 0
IsEstimated = (samples costs : List Float) (b : Block) (map₀ map flags₀ flags : List ℕ) (r : Palette)
    → Searches samples costs b map₀ map flags₀ flags r
    → (r.number ≡ 0 → Estimated samples costs b (found_in samples costs b) r)
    × ((r.number ≡ 0 → ⊥) → estimate_in r ≡ of_bits binary32 0)
