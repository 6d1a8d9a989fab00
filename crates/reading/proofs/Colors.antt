-- The colours' words are read back as the colours. Assumes nothing.
use mathlib.Core.Path.{◌≡◌, refl, ap, ◌∙◌}
use mathlib.Core.Bool.{Bool, true, false, cond}
use mathlib.Core.List.{List, [], ◌∷◌, ◌++◌, append_assoc}
use Prim.Native.Nat.{ℕ, ◌+◌, ◌-◌, ◌^◌, ◌≤◌, ◌<◌, min}
use native.Mathlib.Nat.{le_trans, le_of_lt, min-eq_left, min-eq_right, le-max_left, le-max_right, max-le}
use native.Mathlib.Omega.{arith}
use lib.Dec.{leb}
use lib.ListN.{length}
use lib.Pow.{pow_mono, pow_pos}
use borrow.Author.Tests.{leb-true, leb-false, le-leb, lt-leb}
use Rattle.lists.specs.Counted.{elem, bit}
use Rattle.lists.proofs.Ascending.{ascending_at}
use Rattle.counts.specs.Counts.{ceil_log2}
use Rattle.counts.proofs.Log.{ceil_reaches}
use Rattle.literals.specs.Literals.{levels_ok, largest_step, step_bits, cut_bits, step_words, more_words, literal_words}
use Rattle.literals.proofs.Levels.{levels_ascend, level_at, levels_tail}
use Rattle.literals.proofs.Widths.{step_bits_least, step_bits_most}
use Rattle.emit.specs.Colors.{remove, cache_words, untaken, color_words}
use Rattle.emit.proofs.Remove.{length_remove}
use Rattle.emit.proofs.Untaken.{untaken_none, levels_untaken}
use Rattle.reader.specs.Reader.{got}
use Rattle.read_colors.specs.Colors.{insert, read_bit, read_cache, read_steps, read_more, read_literals, read_sized, read_colors}
use Rattle.reader.proofs.Words.{due_word, bit_below, bit_eqb}
use Rattle.read_colors.proofs.Inserted.{length_insert}
use Rattle.reading.proofs.Inserted.{insert_all, one_first, insert_ascending}

-- ---- cache bits

-- the colours that the cache gives, put to those at hand
taken : List ℕ → List ℕ → List ℕ → List ℕ
taken [] us cs = cs
taken (e ∷ es) [] cs = cs
taken (e ∷ es) (u ∷ us) cs = taken es (remove e (u ∷ us)) (cond (elem e (u ∷ us)) (insert e cs) cs)

length_put : (b : Bool) (e : ℕ) (cs : List ℕ) → length (cond b (insert e cs) cs) ≡ length cs + bit b
length_put true e cs = omega (arith, length_insert e cs)
length_put false e cs = omega arith

cache_read : (es us cs r : List ℕ) (n : ℕ) → n ≡ length cs + length us
    → read_cache es n cs (cache_words es us ++ r) ≡ got (taken es us cs) r
unfolding read_cache read_bit cache_words taken
cache_read [] us cs r n e = refl
cache_read (x ∷ es) [] cs r n e = rw (le-leb n (length cs) (omega arith)) refl
cache_read (x ∷ es) (u ∷ us) cs r n e =
    let b = elem x (u ∷ us) in
    let left = remove x (u ∷ us) in
    let more = cond b (insert x cs) cs in
    let count : n ≡ length more + length left = omega (arith, length_put b x cs, length_remove x (u ∷ us)) in
    rw (
      lt-leb n (length cs) (omega arith),
      due_word 1 1 2 (bit b) (cache_words es left ++ r) (bit_below b),
      bit_eqb b,
    ) (cache_read es left more r n count)

taken_whole : (es us cs : List ℕ) → insert_all (untaken es us) (taken es us cs) ≡ insert_all us cs
unfolding taken untaken
taken_whole [] us cs = refl
taken_whole (e ∷ es) [] cs = rw (untaken_none (e ∷ es) [] refl) refl
taken_whole (e ∷ es) (u ∷ us) cs = taken_whole es (remove e (u ∷ us)) _ ∙ one_first e (u ∷ us) cs

taken_count : (es us cs : List ℕ) → length (taken es us cs) + length (untaken es us) ≡ length cs + length us
unfolding taken untaken
taken_count [] us cs = refl
taken_count (e ∷ es) [] cs = rw (untaken_none (e ∷ es) [] refl) refl
taken_count (e ∷ es) (u ∷ us) cs =
    let b = elem e (u ∷ us) in
    taken_count es (remove e (u ∷ us)) (cond b (insert e cs) cs)
    ∙ omega (arith, length_put b e cs, length_remove e (u ∷ us))

-- ---- literals

pow_min : (v a b : ℕ) → v ≤ 2 ^ a → v ≤ 2 ^ b → v ≤ 2 ^ min a b
pow_min v a b g h =
    let go : (c : Bool) → leb a b ≡ c → v ≤ 2 ^ min a b = elim [
      | true ↦ λ p. (let q : min a b ≡ a = min-eq_left (leb-true a b p) in rw q g)
      | false ↦ λ p. (let q : min a b ≡ b = min-eq_right (le_of_lt (leb-false a b p)) in rw q h)
    ] in
    go (leb a b) refl

module _ (bd : ℕ) (deep : 8 ≤ bd) (deep_most : bd ≤ 12) where
  head_level : (c : ℕ) (cs : List ℕ) → levels_ok bd (c ∷ cs) ≡ true → c ≤ 2 ^ bd - 1
  head_level c cs e = level_at bd (c ∷ cs) e 0 (omega arith)

  rises : (c d : ℕ) (ds : List ℕ) → levels_ok bd (c ∷ d ∷ ds) ≡ true → c < d
  rises c d ds e = ascending_at (c ∷ d ∷ ds) (levels_ascend bd (c ∷ d ∷ ds) e) 0 (omega arith)

  -- no step goes past the top level
  step_top : (c : ℕ) (ds : List ℕ) → levels_ok bd (c ∷ ds) ≡ true → largest_step c ds ≤ 2 ^ bd - 1 - c
  unfolding largest_step
  step_top c [] e = omega arith
  step_top c (d ∷ ds) e =
      let t : levels_ok bd (d ∷ ds) ≡ true = levels_tail bd c (d ∷ ds) e in
      let u : d ≤ 2 ^ bd - 1 = head_level d ds t in
      let l : c < d = rises c d ds e in
      let v : largest_step d ds ≤ 2 ^ bd - 1 - d = step_top d ds t in
      max-le (omega arith) (omega arith)

  small : (v : ℕ) → v ≤ 2 ^ bd - 1 → v ≤ 2 ^ 32
  small v h = let p : 2 ^ bd ≤ 2 ^ 32 = pow_mono {i = bd} {j = 32} (omega arith) in omega arith

  -- the bits left after a step hold the steps to come
  next_bits : (b d : ℕ) (ds : List ℕ) → levels_ok bd (d ∷ ds) ≡ true → largest_step d ds ≤ 2 ^ b → largest_step d ds ≤ 2 ^ cut_bits bd b d
  unfolding cut_bits
  next_bits b d ds e l =
      let q : 2 ^ bd - 1 - d ≤ 2 ^ ceil_log2 (2 ^ bd - 1 - d) = ceil_reaches (2 ^ bd - 1 - d) (small (2 ^ bd - 1 - d) (omega arith)) in
      pow_min (largest_step d ds) b (ceil_log2 (2 ^ bd - 1 - d)) l (le_trans (step_top d ds e) q)

  steps_read : (b c : ℕ) (ds cs r : List ℕ) → levels_ok bd (c ∷ ds) ≡ true → largest_step c ds ≤ 2 ^ b
      → read_steps bd b c (length ds) cs (step_words bd b c ds ++ r) ≡ got (insert_all ds cs) r
  unfolding read_steps step_words largest_step insert_all
  steps_read b c [] cs r e l = refl
  steps_read b c (d ∷ ds) cs r e l =
      let t : levels_ok bd (d ∷ ds) ≡ true = levels_tail bd c (d ∷ ds) e in
      let u : d ≤ 2 ^ bd - 1 = head_level d ds t in
      let k : c < d = rises c d ds e in
      let s : d - c ≤ 2 ^ b = le_trans (le-max_left (d - c) (largest_step d ds)) l in
      let s' : largest_step d ds ≤ 2 ^ b = le_trans (le-max_right (d - c) (largest_step d ds)) l in
      let v : c + 1 + (d - c - 1) ≡ d = omega arith in
      let f : d - c - 1 < min (2 ^ b) (2 ^ bd - 1 - c) = omega arith in
      rw (due_word 1 b (min (2 ^ b) (2 ^ bd - 1 - c)) (d - c - 1) (step_words bd (cut_bits bd b d) d ds ++ r) f, v)
      (steps_read (cut_bits bd b d) d ds (insert d cs) r t (next_bits b d ds t s'))

  bits_reach : (c : ℕ) (ds : List ℕ) → levels_ok bd (c ∷ ds) ≡ true → largest_step c ds ≤ 2 ^ step_bits bd c ds
  unfolding step_bits
  bits_reach c ds e =
      let s : largest_step c ds ≤ 2 ^ bd - 1 - c = step_top c ds e in
      le_trans (ceil_reaches (largest_step c ds) (small (largest_step c ds) (omega arith)))
      (pow_mono (le-max_left (ceil_log2 (largest_step c ds)) (bd - 3)))

  more_read : (c : ℕ) (ds cs r : List ℕ) → levels_ok bd (c ∷ ds) ≡ true
      → read_more bd c (length ds) cs (more_words bd c ds ++ r) ≡ got (insert_all ds cs) r
  unfolding read_more more_words insert_all
  more_read c [] cs r e = refl
  more_read c (d ∷ ds) cs r e =
      let b = step_bits bd c (d ∷ ds) in
      let m : b ≤ bd = step_bits_most bd c (d ∷ ds) e in
      let l : bd - 3 ≤ b = step_bits_least bd c (d ∷ ds) in
      let v : b - (bd - 3) + (bd - 3) ≡ b = omega arith in
      let f : b - (bd - 3) < 4 = omega arith in
      rw (due_word 1 2 4 (b - (bd - 3)) (step_words bd b c (d ∷ ds) ++ r) f, v)
      (steps_read b c (d ∷ ds) cs r e (bits_reach c (d ∷ ds) e))

  literals_read : (us cs r : List ℕ) → levels_ok bd us ≡ true
      → read_literals bd (length us) cs (literal_words bd us ++ r) ≡ got (insert_all us cs) r
  unfolding read_literals literal_words insert_all
  literals_read [] cs r e = refl
  literals_read (u ∷ us) cs r e =
      let p : 0 < 2 ^ bd = pow_pos bd in
      let f : u < 2 ^ bd = omega (arith, head_level u us e) in
      rw (due_word 1 bd (2 ^ bd) u (more_words bd u us ++ r) f) (more_read u us (insert u cs) r e)

  pub colors_read : (cache cs r : List ℕ) → 2 ≤ length cs → length cs ≤ 8 → levels_ok bd cs ≡ true
      → read_colors bd cache (color_words bd cache cs ++ r) ≡ got cs r
  unfolding read_colors read_sized color_words
  colors_read cache cs r l h e =
      let us = untaken cache cs in
      let ts = taken cache cs [] in
      let n : length cs - 2 + 2 ≡ length cs = omega arith in
      let f : length cs - 2 < 7 = omega arith in
      let m : length cs - length ts ≡ length us = omega (arith, taken_count cache cs []) in
      let all : insert_all us ts ≡ cs = taken_whole cache cs [] ∙ insert_ascending cs (levels_ascend bd cs e) in
      rw (
        append_assoc (cache_words cache cs) (literal_words bd us) r,
        due_word 3 0 7 (length cs - 2) (cache_words cache cs ++ (literal_words bd us ++ r)) f,
        n,
        cache_read cache cs [] (literal_words bd us ++ r) (length cs) (omega arith),
        m,
      ) (literals_read us ts r (levels_untaken bd cache cs e) ∙ ap (λ (x : List ℕ). got x r) all)
