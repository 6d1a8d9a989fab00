-- The test of a line looks at that line and at the one before it. A constant line and a copied one pass, and a filled
-- line has the cells that it was filled with.
use Prim.Native.Nat.{ℕ, zero, suc, ◌-◌, ◌≤◌, ◌<◌}
use mathlib.Core.Bool.{Bool, true}
use mathlib.Core.Path.{◌≡◌, refl, sym, ◌∙◌}
use mathlib.Core.Logic.{inl, inr}
use mathlib.Core.List.{List}
use native.Mathlib.Omega.{arith}
use native.Mathlib.Nat.{eq-or-lt_of_le, le_of_suc-le-suc}
use lib.Dec.{eqb}
use lib.ListN.{length}
use lib.Seq.{get_or-set_same, get_or-set_other}
use borrow.Author.Tests.{eq-eqb}
use Rattle.lists.specs.Counted.{all_below}
use Rattle.lists.proofs.Counted.{all_below_of}
use Rattle.accept.specs.Accepted.{line_ok}
use Rattle.scan.specs.Scan.{place_at, cell_in, fill, Sound}
use Rattle.scan.specs.declared.Scan.{Scan}
use Rattle.scan.proofs.Fill.{length_fill, cells_apart}

all_same : (f g : ℕ → Bool) (n : ℕ) → ((a : ℕ) → a < n → f a ≡ g a) → all_below f n ≡ all_below g n
unfolding all_below
all_same f g zero same = refl
all_same f g (suc n) same = rw (same n (omega arith), all_same f g n (λ a l. same a (omega arith))) refl

-- `at` and `by` give the same cells up to line l
pub line_same : (flag len l : ℕ) (at by : ℕ → ℕ → ℕ) → 0 < len → ((j a : ℕ) → j ≤ l → a < len → at j a ≡ by j a)
    → line_ok flag at len l ≡ line_ok flag by len l
unfolding line_ok
line_same zero len l at by some same = refl
line_same (suc zero) len l at by some same =
    all_same (λ a. eqb (at l a) (at l 0)) (λ a. eqb (by l a) (by l 0)) len
    (λ a h. rw (same l a (omega arith) h, same l 0 (omega arith) some) refl)
line_same (suc (suc zero)) len zero at by some same = refl
line_same (suc (suc zero)) len (suc k) at by some same =
    all_same (λ a. eqb (at (suc k) a) (at k a)) (λ a. eqb (by (suc k) a) (by k a)) len
    (λ a h. rw (same (suc k) a (omega arith) h, same k a (omega arith) h) refl)
line_same (suc (suc (suc f))) len l at by some same = refl

pub constant_ok : (at : ℕ → ℕ → ℕ) (len l index : ℕ) → 0 < len → ((a : ℕ) → a < len → at l a ≡ index)
    → line_ok 1 at len l ≡ true
unfolding line_ok
constant_ok at len l index some each =
    all_below_of (λ a. eqb (at l a) (at l 0)) len (λ a h. eq-eqb _ _ (each a h ∙ sym (each 0 some)))

pub copy_ok : (at : ℕ → ℕ → ℕ) (len l : ℕ) → 0 < l → ((a : ℕ) → a < len → at l a ≡ at (l - 1) a)
    → line_ok 2 at len l ≡ true
unfolding line_ok
copy_ok at len zero some each = absurd (omega arith)
copy_ok at len (suc k) some each =
    let before : suc k - 1 ≡ k = omega arith in
    all_below_of (λ a. eqb (at (suc k) a) (at k a)) len (λ a h. eq-eqb _ _ (rw before at (each a h)))

-- the first k cells of line l, filled with g
module _ (s : Scan) (N : ℕ) (S : Sound s N) (l : ℕ) (inside : l < s.lines) where
  pub fill_at : (g : ℕ → ℕ) (m : List ℕ) (k a : ℕ) → N ≤ length m → a < k → k ≤ s.len
      → cell_in (fill s l g m k) s l a ≡ g a
  unfolding fill
  fill_at g m zero a room p q = absurd (omega arith)
  fill_at g m (suc k) a room p q = elim (eq-or-lt_of_le (le_of_suc-le-suc p)) [
    | inl e ↦
        let held : place_at s l a < length (fill s l g m a) = omega (arith, S.inside l a inside (omega arith), length_fill s l g m a) in
        rw (← e) (get_or-set_same (fill s l g m a) (place_at s l a) (g a) 0 held)
    | inr h ↦
        let apart = cells_apart s N S l inside a k (omega arith) (omega arith) (λ e. omega arith) in
        get_or-set_other (fill s l g m k) (place_at s l k) (place_at s l a) (g k) 0 apart ∙ fill_at g m k a room h (omega arith)
  ]
