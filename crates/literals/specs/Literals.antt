-- Document 01, 'Literals'.
use Rattle.std.specs.Prelude.{ℕ, ◌+◌, ◌-◌, ◌^◌, max, min, Bool, ◌&&◌, List, [], ◌∷◌, leb}
use Rattle.lists.specs.Counted.{ascending, all_in}
use Rattle.counts.specs.Counts.{ceil_log2}
use Rattle.literals.specs.Words.{bypass}

-- colours: strictly ascending, none above the top level
unfoldable pub levels_ok : ℕ → List ℕ → Bool
levels_ok bd cs = ascending cs && all_in (λ c. leb c (2 ^ bd - 1)) cs

-- the largest step from c through the colours above it
unfoldable pub largest_step : ℕ → List ℕ → ℕ
largest_step c [] = 0
largest_step c (d ∷ ds) = max (d - c) (largest_step d ds)

-- where b starts: the larger of ceil_log2(largest step) and bd - 3
unfoldable pub step_bits : ℕ → ℕ → List ℕ → ℕ
step_bits bd c ds = max (ceil_log2 (largest_step c ds)) (bd - 3)

-- b after the step to d: the range above d cuts it
unfoldable pub cut_bits : ℕ → ℕ → ℕ → ℕ
cut_bits bd b d = min b (ceil_log2 (2 ^ bd - 1 - d))

-- each step minus 1 in b bits
unfoldable pub step_words : ℕ → ℕ → ℕ → List ℕ → List ℕ
step_words bd b c [] = []
step_words bd b c (d ∷ ds) = bypass b (d - c - 1) ∷ step_words bd (cut_bits bd b d) d ds

-- if more follow the first colour c: b - (bd - 3) in 2 bits, then the steps
unfoldable pub more_words : ℕ → ℕ → List ℕ → List ℕ
more_words bd c [] = []
more_words bd c (d ∷ ds) =
    let b = step_bits bd c (d ∷ ds) in
    bypass 2 (b - (bd - 3)) ∷ step_words bd b c (d ∷ ds)

-- the first colour in bd bits, then the others
unfoldable pub literal_words : ℕ → List ℕ → List ℕ
literal_words bd [] = []
literal_words bd (c ∷ cs) = bypass bd c ∷ more_words bd c cs

-- the sum of these widths
unfoldable pub steps_width : ℕ → ℕ → List ℕ → ℕ
steps_width bd b [] = 0
steps_width bd b (d ∷ ds) = b + steps_width bd (cut_bits bd b d) ds

unfoldable pub literal_bits : ℕ → List ℕ → ℕ
literal_bits bd [] = 0
literal_bits bd (c ∷ []) = bd
literal_bits bd (c ∷ d ∷ ds) = bd + 2 + steps_width bd (step_bits bd c (d ∷ ds)) (d ∷ ds)
