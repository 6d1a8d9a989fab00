-- The counts of the levels add up to the number of cells. Assumes nothing.
use mathlib.Core.Path.{◌≡◌, refl, ◌∙◌}
use mathlib.Core.Bool.{Bool, true, false, cond}
use mathlib.Core.List.{List, [], ◌∷◌, ◌++◌, append-nil}
use Prim.Native.Nat.{ℕ, zero, suc, ◌+◌, ◌≤◌, ◌<◌, zero-le}
use native.Mathlib.Nat.{add_comm, add_assoc}
use native.Mathlib.Omega.{arith}
use lib.Dec.{eqb, ltb}
use lib.ListN.{length, get_or, length-append}
use borrow.Author.Tests.{eqb-true, eqb-false, ltb-true, ltb-false, lt-ltb, le-ltb}
use Rattle.lists.specs.Counted.{up_to, total, bit}
use Rattle.groups.specs.Histogram.{occurs, per_level, sum_to}

sum_cons : (x : ℕ) (xs : List ℕ) (k : ℕ) → sum_to (x ∷ xs) (suc k) ≡ x + sum_to xs k
unfolding sum_to
sum_cons x xs zero = add_comm 0 x
sum_cons x xs (suc k) = rw (sum_cons x xs k) (add_assoc x (sum_to xs k) (get_or xs k 0))

sum_none : (k : ℕ) → sum_to [] k ≡ 0
unfolding sum_to
sum_none zero = refl
sum_none (suc k) = omega (arith, sum_none k)

sum_snoc : (xs : List ℕ) (y k : ℕ) → length xs < k → sum_to (xs ++ (y ∷ [])) k ≡ sum_to xs k + y
sum_snoc xs y zero h = absurd (omega arith)
sum_snoc [] y (suc k) h = omega (arith, sum_cons y [] k, sum_none k, sum_none (suc k))
sum_snoc (x ∷ xs) y (suc k) h =
    omega (arith, sum_cons x (xs ++ (y ∷ [])) k, sum_cons x xs k, sum_snoc xs y k (omega arith))

pub sum_same : (xs ys : List ℕ) (k : ℕ) → ((i : ℕ) → get_or xs i 0 ≡ get_or ys i 0) → sum_to xs k ≡ sum_to ys k
unfolding sum_to
sum_same xs ys zero h = refl
sum_same xs ys (suc k) h = rw (sum_same xs ys k h, h k) refl

-- the counts of the levels below m, in k places or more than there are
pub counts_total : (count : ℕ → ℕ) (m k : ℕ) → length (per_level count m count) ≤ k
    → sum_to (per_level count m count) k ≡ total count m
unfolding up_to total
counts_total count zero k h = sum_none k
counts_total count (suc m) k h =
    go (eqb (count m) 0) (eqb-true (count m) 0) (per_level count m count) (counts_total count m k) h
  where
    go : (t : Bool) → (t ≡ true → count m ≡ 0) → (ws : List ℕ) → (length ws ≤ k → sum_to ws k ≡ total count m)
        → length (ws ++ cond t [] (count m ∷ [])) ≤ k → sum_to (ws ++ cond t [] (count m ∷ [])) k ≡ total count m + count m
    go true z ws r l = rw (append-nil ws) (omega (arith, z refl, r (rw (append-nil ws) at l)))
    go false z ws r l =
        let n = length-append ws (count m ∷ []) in
        omega (arith, sum_snoc ws (count m) k (omega arith), r (omega arith))

-- one cell is of one level
one_cell : (x m : ℕ) → total (λ v. bit (eqb x v)) m ≡ bit (ltb x m)
unfolding total
one_cell x zero = rw (le-ltb x 0 zero-le) refl
one_cell x (suc m) = rw (one_cell x m) (go (ltb x m) (eqb x m) refl refl)
  where
    go : (a b : Bool) → ltb x m ≡ a → eqb x m ≡ b → bit a + bit b ≡ bit (ltb x (suc m))
    go true true p q = absurd (omega (arith, ltb-true x m p, eqb-true x m q))
    go true false p q = rw (lt-ltb x (suc m) (omega (arith, ltb-true x m p))) refl
    go false true p q = rw (lt-ltb x (suc m) (omega (arith, eqb-true x m q))) refl
    go false false p q = rw (le-ltb x (suc m) (apart (ltb-false x m p) (eqb-false x m q))) refl
      where
        apart : m ≤ x → (x ≡ m → ⊥) → suc m ≤ x
        apart a b = omega arith

pub cells_total : (xs : List ℕ) (m : ℕ) → ((i : ℕ) → i < length xs → get_or xs i 0 < m) → total (occurs xs) m ≡ length xs
unfolding occurs total
cells_total [] m h = none m
  where
    none : (m : ℕ) → total (λ v. 0) m ≡ 0
    none zero = refl
    none (suc m) = omega (arith, none m)
cells_total (x ∷ xs) m h =
    let one : total (λ v. bit (eqb x v)) m ≡ 1 = one_cell x m ∙ rw (lt-ltb x m (h 0 (omega arith))) refl in
    omega (arith, both (λ v. bit (eqb x v)) (occurs xs) m, one, cells_total xs m (λ i l. h (suc i) (omega arith)))
  where
    both : (f g : ℕ → ℕ) (m : ℕ) → total (λ v. f v + g v) m ≡ total f m + total g m
    both f g zero = refl
    both f g (suc m) = omega (arith, both f g m)
