-- The colours' words tell the colours. Assumes nothing.
use mathlib.Core.Path.{◌≡◌, refl, sym, ap, ◌∙◌}
use mathlib.Core.Bool.{true}
use mathlib.Core.List.{List, [], ◌∷◌}
use Prim.Native.Nat.{ℕ, ◌-◌, ◌≤◌}
use native.Mathlib.Nat.{le-max_right}
use native.Mathlib.Omega.{arith}
use lib.ListN.{length}
use Rattle.lists.specs.Counted.{elem, bit, ascending}
use Rattle.lists.proofs.Counted.{bit_injective}
use Rattle.lists.proofs.Ascending.{Above, Ascending, ascending_is}
use Rattle.counts.specs.Counts.{ceil_log2}
use Rattle.literals.specs.Literals.{largest_step, step_bits, cut_bits, step_words, more_words, literal_words}
use Rattle.emit.specs.Colors.{remove, cache_words, untaken, color_words}
use Rattle.emit.proofs.Remove.{ascending_remove, length_remove, restore}
use Rattle.emit.proofs.Untaken.{ascending_untaken}
use Rattle.listing.proofs.Splits.{Splits, nil, cons, weaken, then}
use Rattle.literals.proofs.Words.{word_injective}

-- after the cache bits: as many untaken colours, and from these the colours
record After (es us vs : List ℕ) : Type 0 where
  count : length (untaken es us) ≡ length (untaken es vs)
  back : untaken es us ≡ untaken es vs → us ≡ vs

cache_splits : (es us vs : List ℕ) → Ascending us → Ascending vs → length us ≡ length vs
    → Splits (cache_words es us) (cache_words es vs) (After es us vs)
unfolding cache_words untaken
cache_splits [] us vs a b l = nil (record { count = l; back = λ e. e })
cache_splits (e ∷ es) [] [] a b l = nil (record { count = refl; back = λ e. refl })
cache_splits (e ∷ es) [] (v ∷ vs) a b l = absurd (omega arith)
cache_splits (e ∷ es) (u ∷ us) [] a b l = absurd (omega arith)
cache_splits (e ∷ es) (u ∷ us) (v ∷ vs) a b l =
    cons λ h.
    let t : elem e (u ∷ us) ≡ elem e (v ∷ vs) = bit_injective _ _ (word_injective 1 1 1 _ _ refl h) in
    weaken
    (λ k. record {
      count = k.count;
      back = λ q.
          let p : remove e (u ∷ us) ≡ remove e (v ∷ vs) = k.back q in
          sym (restore e (u ∷ us) a) ∙ rw (t, p) (restore e (v ∷ vs) b);
    })
    (cache_splits es (remove e (u ∷ us)) (remove e (v ∷ vs)) (ascending_remove e (u ∷ us) a)
    (ascending_remove e (v ∷ vs) b)
    (omega (arith, length_remove e (u ∷ us), length_remove e (v ∷ vs), ap bit t)))

-- each step tells its colour; b is the same on both sides, for it follows from what was told
step_splits : (bd b b' c c' : ℕ) (us vs : List ℕ) → b ≡ b' → c ≡ c' → Above c us → Above c' vs → length us ≡ length vs
    → Splits (step_words bd b c us) (step_words bd b' c' vs) (us ≡ vs)
unfolding step_words
step_splits bd b b' c c' [] [] p q g h l = nil refl
step_splits bd b b' c c' [] (v ∷ vs) p q g h l = absurd (omega arith)
step_splits bd b b' c c' (u ∷ us) [] p q g h l = absurd (omega arith)
step_splits bd b b' c c' (u ∷ us) (v ∷ vs) p q g h l =
    cons λ e.
    let s : u - c - 1 ≡ v - c' - 1 = word_injective 1 b b' _ _ p e in
    let t : u ≡ v = omega arith in
    weaken (λ k. cc) (step_splits bd (cut_bits bd b u) (cut_bits bd b' v) u v us vs (cc) t g.1 h.1 (omega arith))

least_bits_holds : (bd c : ℕ) (us : List ℕ) → bd - 3 ≤ step_bits bd c us
unfolding step_bits
least_bits_holds bd c us = le-max_right (ceil_log2 (largest_step c us)) (bd - 3)

more_splits : (bd c c' : ℕ) (us vs : List ℕ) → c ≡ c' → Above c us → Above c' vs → length us ≡ length vs
    → Splits (more_words bd c us) (more_words bd c' vs) (us ≡ vs)
unfolding more_words
more_splits bd c c' [] [] q g h l = nil refl
more_splits bd c c' [] (v ∷ vs) q g h l = absurd (omega arith)
more_splits bd c c' (u ∷ us) [] q g h l = absurd (omega arith)
more_splits bd c c' (u ∷ us) (v ∷ vs) q g h l =
    cons λ e.
    let s : step_bits bd c (u ∷ us) - (bd - 3) ≡ step_bits bd c' (v ∷ vs) - (bd - 3) = word_injective 1 2 2 _ _ refl e in
    step_splits bd _ _ c c' (u ∷ us) (v ∷ vs) (omega (arith, least_bits_holds bd c (u ∷ us), least_bits_holds bd c' (v ∷ vs))) q g h l

literal_splits : (bd : ℕ) (us vs : List ℕ) → Ascending us → Ascending vs → length us ≡ length vs
    → Splits (literal_words bd us) (literal_words bd vs) (us ≡ vs)
unfolding literal_words
literal_splits bd [] [] a b l = nil refl
literal_splits bd [] (v ∷ vs) a b l = absurd (omega arith)
literal_splits bd (u ∷ us) [] a b l = absurd (omega arith)
literal_splits bd (u ∷ us) (v ∷ vs) a b l =
    cons λ e.
    let t : u ≡ v = word_injective 1 bd bd u v refl e in
    weaken (λ k. cc) (more_splits bd u v us vs t a b (omega arith))

pub color_splits : (bd : ℕ) (cache us vs : List ℕ) → ascending us ≡ true → ascending vs ≡ true → 2 ≤ length us → 2 ≤ length vs
    → Splits (color_words bd cache us) (color_words bd cache vs) (us ≡ vs)
unfolding color_words
color_splits bd cache us vs a b m n =
    cons λ e.
    let l : length us ≡ length vs = omega (arith, word_injective 3 0 0 _ _ refl e) in
    let u : Ascending us = ascending_is us a in
    let v : Ascending vs = ascending_is vs b in
    then (cache_splits cache us vs u v l)
    (λ k.
    weaken k.back
    (literal_splits bd (untaken cache us) (untaken cache vs) (ascending_untaken cache us u) (ascending_untaken cache vs v) k.count))
