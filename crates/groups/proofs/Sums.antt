-- Sums of the first numbers of a list, exact and in f64.
use mathlib.Core.Path.{◌≡◌, refl, ap, ◌∙◌}
use mathlib.Core.Logic.{⊎_elim}
use mathlib.Core.List.{List, [], ◌∷◌}
use Prim.Native.Nat.{ℕ, zero, suc, ◌+◌, ◌-◌, ◌^◌, ◌≤◌, ◌<◌, zero-le}
use native.Mathlib.Nat.{add-zero, add-suc, eq-or-lt_of_le, le_of_suc-le-suc}
use native.Mathlib.Numerals.{add-one}
use native.Mathlib.Omega.{arith}
use lib.ListN.{length, get_or, take, drop, length-drop}
use Rattle.std.specs.List.{sum}
use Rattle.std.proofs.lemmas.List.Sums.{sum_by_more}
use Rattle.std.proofs.lemmas.List.{get_or-drop}
use lib.Ieee.{Float, nan, binary64, add, of_bits, of_int}
use Rattle.ieee.specs.Numbers.{nat}
use Rattle.ieee.proofs.Numbers.{nat_add}
use Rattle.groups.specs.Histogram.{sum_to}
use Rattle.groups.specs.Groups.{sums_from, prefix_of, sum_in}

pub sum_next : (xs : List ℕ) (k : ℕ) → sum_to xs (k + 1) ≡ sum_to xs k + get_or xs k 0
unfolding sum_to
sum_next xs k = rw add-one refl

pub sum_mono : (xs : List ℕ) (k n : ℕ) → k ≤ n → sum_to xs k ≤ sum_to xs n
unfolding sum_to
sum_mono xs k zero h = let e : k ≡ 0 = omega arith in rw e zero-le
sum_mono xs k (suc n) h =
    let less : k ≤ n → sum_to xs k ≤ sum_to xs n = sum_mono xs k n in
    ⊎_elim (λ e. rw e (omega arith)) (λ l. omega (arith, less (le_of_suc-le-suc l))) (eq-or-lt_of_le h)

-- of a part
sum_part : (xs : List ℕ) (i m : ℕ) → i + m ≤ length xs → sum_to xs i + sum (take m (drop i xs)) ≡ sum_to xs (i + m)
unfolding sum_to
sum_part xs i zero h = rw (add-zero i) (omega arith)
sum_part xs i (suc m) h =
    let part : m < length (drop i xs) = omega (arith, length-drop i xs) in
    let more = rw add-one at (sum_by_more (λ x. x) (drop i xs) m 0 part) in
    rw (add-suc i m) (omega (arith, sum_part xs i m (omega arith), more, get_or-drop i xs m 0))

pub sum_range : (xs : List ℕ) (i j : ℕ) → i ≤ j → j ≤ length xs → sum (take (j - i) (drop i xs)) ≡ sum_in xs i j
sum_range xs i j h l =
    let all : i + (j - i) ≡ j = omega arith in
    omega (arith, rw all at (sum_part xs i (j - i) (omega arith)))

-- ---- the same in f64
pub sums_first : (t : Float) (xs : List ℕ) → get_or (sums_from t xs) 0 nan ≡ t
unfolding sums_from
sums_first t [] = refl
sums_first t (x ∷ xs) = refl

pub sums_length : (t : Float) (xs : List ℕ) → length (sums_from t xs) ≡ suc (length xs)
unfolding sums_from
sums_length t [] = refl
sums_length t (x ∷ xs) = ap suc (sums_length (add binary64 t (nat binary64 x)) xs)

pub sums_next : (t : Float) (xs : List ℕ) (k : ℕ) → k < length xs
    → get_or (sums_from t xs) (suc k) nan ≡ add binary64 (get_or (sums_from t xs) k nan) (nat binary64 (get_or xs k 0))
unfolding sums_from
sums_next t [] k h = absurd (omega arith)
sums_next t (x ∷ xs) zero h = sums_first (add binary64 t (nat binary64 x)) xs
sums_next t (x ∷ xs) (suc k) h = sums_next (add binary64 t (nat binary64 x)) xs k (omega arith)

-- up to 2 ^ 53 the f64 sums are exact
pub prefix_exact : (xs : List ℕ) (k : ℕ) → k ≤ length xs → sum_to xs k ≤ 2 ^ 53
    → get_or (prefix_of xs) k nan ≡ nat binary64 (sum_to xs k)
unfolding sum_to
prefix_exact xs zero h b = sums_first (of_bits binary64 0) xs ∙ unfold of_bits of_int in refl
prefix_exact xs (suc k) h b =
    sums_next (of_bits binary64 0) xs k h
    ∙ ap (λ z. add binary64 z (nat binary64 (get_or xs k 0))) (prefix_exact xs k (omega arith) (omega arith))
    ∙ nat_add binary64 (sum_to xs k) (get_or xs k 0) (omega arith) (omega arith)
