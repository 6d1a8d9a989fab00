-- Colours from one on: their words, one by one. Assumes nothing.
use mathlib.Core.Path.{◌≡◌, refl, ap, ◌∙◌}
use mathlib.Core.Bool.{true}
use mathlib.Core.List.{List, [], ◌∷◌}
use Prim.Native.Nat.{ℕ, ◌+◌, ◌-◌, ◌^◌, ◌≤◌, ◌<◌}
use native.Mathlib.Nat.{le_refl}
use native.Mathlib.Omega.{arith}
use native.Mathlib.Numerals.{add-one}
use lib.ListN.{length, get_or, take, drop, drop_of_length-le}
use lib.Seq.{drop-cons, take_all}
use Rattle.lists.proofs.Ascending.{ascending_at}
use Rattle.literals.specs.Words.{bypass}
use Rattle.literals.specs.Literals.{levels_ok, step_bits, step_words, more_words, literal_words, steps_width, literal_bits}
use Rattle.literals.proofs.Levels.{levels_ascend, level_at, levels_tail}

-- the next colour is above, and within the depth
pub record Step (bd c d : ℕ) (ds : List ℕ) : Type 0 where
  pub up : c < d
  pub most : d ≤ 2 ^ bd - 1
  pub left : levels_ok bd (d ∷ ds) ≡ true

pub next_step : (bd c d : ℕ) (ds : List ℕ) → levels_ok bd (c ∷ d ∷ ds) ≡ true → Step bd c d ds
next_step bd c d ds e =
    record {
      up = ascending_at (c ∷ d ∷ ds) (levels_ascend bd (c ∷ d ∷ ds) e) 0 (omega arith);
      most = level_at bd (c ∷ d ∷ ds) e 1 (omega arith);
      left = levels_tail bd c (d ∷ ds) e;
    }

-- what a loop over colours has still to read at place i: one more, or none
module _ (xs : List ℕ) (i : ℕ) where
  pub more : i < length xs → drop i xs ≡ get_or xs i 0 ∷ drop (i + 1) xs
  more h = rw (add-one, drop-cons xs i 0 h) refl

  pub none : length xs ≤ i → drop i xs ≡ []
  none h = drop_of_length-le xs {i = i} h

  pub turn : (bd c : ℕ) → i < length xs → levels_ok bd (c ∷ drop i xs) ≡ true → Step bd c (get_or xs i 0) (drop (i + 1) xs)
  turn bd c h e = next_step bd c (get_or xs i 0) (drop (i + 1) xs) (rw (more h) at e)

-- after the first colour: nothing, or the width of the steps and the steps
module _ (bd c : ℕ) where
  pub no_more : (ds : List ℕ) → length ds ≡ 0 → more_words bd c ds ≡ []
  unfolding more_words
  no_more [] e = refl
  no_more (d ∷ ds) e = absurd (omega arith)

  pub some_more : (ds : List ℕ) → 0 < length ds
      → more_words bd c ds ≡ bypass 2 (step_bits bd c ds - (bd - 3)) ∷ step_words bd (step_bits bd c ds) c ds
  unfolding more_words
  some_more [] h = absurd (omega arith)
  some_more (d ∷ ds) h = refl

-- the colours as a pattern takes them apart, and their words
abbrev pub rest_of : List ℕ → List ℕ
rest_of cs = take (length cs - 1) (drop 1 cs)

pub none_at_all : (cs : List ℕ) → length cs < 1 → cs ≡ []
none_at_all [] h = refl
none_at_all (c ∷ cs) h = absurd (omega arith)

pub parts : (cs : List ℕ) → 0 < length cs → cs ≡ get_or cs 0 0 ∷ rest_of cs
parts [] h = absurd (omega arith)
parts (c ∷ cs) h = let e : length (c ∷ cs) - 1 ≡ length cs = omega arith in rw (e, take_all (length cs) cs (le_refl (length cs))) refl

pub first_word : (bd : ℕ) (cs : List ℕ) → 0 < length cs → literal_words bd cs ≡ bypass bd (get_or cs 0 0) ∷ more_words bd (get_or cs 0 0) (rest_of cs)
unfolding literal_words
first_word bd cs h = ap (literal_words bd) (parts cs h)

pub one_width : (bd : ℕ) (cs : List ℕ) → 0 < length cs → length cs < 2 → literal_bits bd cs ≡ bd
unfolding literal_bits
one_width bd [] h k = absurd (omega arith)
one_width bd (c ∷ []) h k = refl
one_width bd (c ∷ d ∷ ds) h k = absurd (omega arith)

two_widths : (bd c : ℕ) (ds : List ℕ) → 0 < length ds → literal_bits bd (c ∷ ds) ≡ bd + 2 + steps_width bd (step_bits bd c ds) ds
unfolding literal_bits
two_widths bd c [] h = absurd (omega arith)
two_widths bd c (d ∷ ds) h = refl

pub all_widths : (bd : ℕ) (cs : List ℕ) → 1 < length cs
    → literal_bits bd cs ≡ bd + 2 + steps_width bd (step_bits bd (get_or cs 0 0) (rest_of cs)) (rest_of cs)
all_widths bd cs h =
    let whole = parts cs (omega arith) in
    ap (literal_bits bd) whole ∙ two_widths bd (get_or cs 0 0) (rest_of cs) (omega (arith, ap length whole))
