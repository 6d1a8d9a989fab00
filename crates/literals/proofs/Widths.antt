-- Document 01's sum of widths is that of the words; how wide a step and how long the words can be. Assumes nothing.
use mathlib.Core.Path.{◌≡◌, refl}
use mathlib.Core.Bool.{true}
use mathlib.Core.List.{List, [], ◌∷◌}
use Prim.Native.Nat.{ℕ, ◌+◌, ◌*◌, ◌-◌, ◌^◌, ◌≤◌, ◌<◌, zero-le}
use native.Mathlib.Omega.{arith}
use lib.ListN.{length}
use lib.Pow.{pow_mono}
use Rattle.counts.proofs.Log.{ceil_least}
use Rattle.literals.specs.Words.{word, raw_bits, raw_width_of}
use Rattle.literals.specs.Literals.{levels_ok, largest_step, step_bits, cut_bits, step_words, more_words, literal_words, steps_width, literal_bits}
use Rattle.literals.proofs.Levels.{level_at, levels_tail}
use Rattle.literals.proofs.Words.{raw_word}

largest_le : (bd c : ℕ) (ds : List ℕ) → levels_ok bd (c ∷ ds) ≡ true → largest_step c ds ≤ 2 ^ bd - 1
unfolding largest_step
largest_le bd c [] e = zero-le
largest_le bd c (d ∷ ds) e =
    let t = levels_tail bd c (d ∷ ds) e in
    omega (arith, level_at bd (d ∷ ds) t 0 (omega arith), largest_le bd d ds t)

-- b starts between bd - 3 and bd
pub step_bits_least : (bd c : ℕ) (ds : List ℕ) → bd - 3 ≤ step_bits bd c ds
unfolding step_bits
step_bits_least bd c ds = omega arith

pub step_bits_most : (bd c : ℕ) (ds : List ℕ) → levels_ok bd (c ∷ ds) ≡ true → step_bits bd c ds ≤ bd
unfolding step_bits
step_bits_most bd c ds e = omega (arith, ceil_least (largest_step c ds) bd (omega (arith, largest_le bd c ds e)))

pub cut_bits_le : (bd b d : ℕ) → cut_bits bd b d ≤ b
unfolding cut_bits
cut_bits_le bd b d = omega arith

pub length_steps : (bd b c : ℕ) (ds : List ℕ) → length (step_words bd b c ds) ≡ length ds
unfolding step_words
length_steps bd b c [] = refl
length_steps bd b c (d ∷ ds) = omega (arith, length_steps bd (cut_bits bd b d) d ds)

pub length_literals : (bd : ℕ) (cs : List ℕ) → length (literal_words bd cs) ≤ length cs + 1
unfolding literal_words more_words
length_literals bd [] = omega arith
length_literals bd (c ∷ []) = omega arith
length_literals bd (c ∷ d ∷ ds) = omega (arith, length_steps bd (step_bits bd c (d ∷ ds)) c (d ∷ ds))

pub steps_width_le : (bd b : ℕ) (ds : List ℕ) → b ≤ 12 → steps_width bd b ds ≤ 12 * length ds
unfolding steps_width
steps_width_le bd b [] h = zero-le
steps_width_le bd b (d ∷ ds) h =
    let k : cut_bits bd b d ≤ 12 = omega (arith, cut_bits_le bd b d) in
    omega (arith, steps_width_le bd (cut_bits bd b d) ds k)

module _ (bd : ℕ) (deep : bd ≤ 12) where
  -- a level fits its word
  pub level_fits : (c : ℕ) → c ≤ 2 ^ bd - 1 → c < 65536
  level_fits c h = omega (arith, pow_mono {i = bd} {j = 12} deep)

  -- the first of the levels fits
  head_fits : (c : ℕ) (cs : List ℕ) → levels_ok bd (c ∷ cs) ≡ true → c < 65536
  head_fits c cs e = level_fits c (level_at bd (c ∷ cs) e 0 (omega arith))

  steps_width_holds : (b c : ℕ) (ds : List ℕ) → b ≤ bd → levels_ok bd (c ∷ ds) ≡ true → steps_width bd b ds ≡ raw_width_of (step_words bd b c ds)
  unfolding steps_width step_words raw_width_of
  steps_width_holds b c [] h e = refl
  steps_width_holds b c (d ∷ ds) h e =
      let t = levels_tail bd c (d ∷ ds) e in
      let w : raw_bits (word 1 b (d - c - 1)) ≡ b = raw_word 1 b (d - c - 1) (omega arith) (omega (arith, head_fits d ds t)) in
      omega (arith, w, steps_width_holds (cut_bits bd b d) d ds (omega (arith, cut_bits_le bd b d)) t)

  pub widths : (cs : List ℕ) → levels_ok bd cs ≡ true → literal_bits bd cs ≡ raw_width_of (literal_words bd cs)
  unfolding literal_bits literal_words more_words raw_width_of
  widths [] e = refl
  widths (c ∷ []) e =
      let w : raw_bits (word 1 bd c) ≡ bd = raw_word 1 bd c (omega arith) (head_fits c [] e) in
      omega (arith, w)
  widths (c ∷ d ∷ ds) e =
      let b = step_bits bd c (d ∷ ds) in
      let most : b ≤ bd = step_bits_most bd c (d ∷ ds) e in
      let w : raw_bits (word 1 bd c) ≡ bd = raw_word 1 bd c (omega arith) (head_fits c (d ∷ ds) e) in
      let two : raw_bits (word 1 2 (b - (bd - 3))) ≡ 2 = raw_word 1 2 (b - (bd - 3)) (omega arith) (omega arith) in
      omega (arith, w, two, steps_width_holds b c (d ∷ ds) most e)

  pub literal_bits_le : (cs : List ℕ) → levels_ok bd cs ≡ true → literal_bits bd cs ≤ 12 * length cs + 2
  unfolding literal_bits
  literal_bits_le [] e = zero-le
  literal_bits_le (c ∷ []) e = omega arith
  literal_bits_le (c ∷ d ∷ ds) e =
      let b = step_bits bd c (d ∷ ds) in
      let most : b ≤ bd = step_bits_most bd c (d ∷ ds) e in
      omega (arith, steps_width_le bd b (d ∷ ds) (omega arith))
