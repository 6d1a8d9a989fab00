-- Laws of printing: one piece behind the other, columns filled from the right, lengths. Assumes nothing.
use Prim.Native.Nat.{ℕ, zero, suc, ◌+◌, ◌*◌, ◌<◌, ◌≤◌, ◌/◌, ◌%◌, ◌^◌}
use mathlib.Core.Path.{◌≡◌, refl, ap, ◌∙◌}
use mathlib.Core.Bool.{cond}
use mathlib.Core.List.{List, [], ◌∷◌, ◌++◌}
use native.Mathlib.Omega.{arith}
use lib.Dec.{eqb}
use lib.ListN.{length, set, length-append}
use Rattle.lists.specs.Written.{written}
use Rattle.lists.proofs.Written.{written_append, then}
use Rattle.printing.specs.Printing.{digits, field, line, call_line, call_lines, listed, refused}

-- ---- lengths

pub length_digits : (k v : ℕ) → length (digits k v) ≡ k
unfolding digits
length_digits zero v = refl
length_digits (suc k) v =
    length-append (digits k (v / 10)) (cond (eqb v 0) 32 (48 + v % 10) ∷ []) ∙ omega (arith, length_digits k (v / 10))

pub length_field : (v : ℕ) → length (field v) ≡ 8
unfolding field
length_field v = length-append (digits 7 (v / 10)) ((48 + v % 10) ∷ []) ∙ omega (arith, length_digits 7 (v / 10))

pub length_line : (vs : List ℕ) → length (line vs) ≡ 8 * length vs + 1
unfolding line
length_line [] = refl
length_line (v ∷ vs) = length-append (field v) (line vs) ∙ omega (arith, length_field v, length_line vs)

pub length_call : (c : ℕ) → length (call_line c) ≡ 25
unfolding call_line
length_call c = length_line (c / 2 ^ 24 ∷ c / 2 ^ 16 % 256 ∷ c % 2 ^ 16 ∷ [])

pub length_calls : (cs : List ℕ) → length (call_lines cs) ≡ 25 * length cs
unfolding call_lines
length_calls [] = refl
length_calls (c ∷ cs) = length-append (call_line c) (call_lines cs) ∙ omega (arith, length_call c, length_calls cs)

pub length_listed : (cs : List ℕ) → length (listed cs) ≡ 9 + 25 * length cs
unfolding listed
length_listed cs =
    length-append (line (length cs ∷ [])) (call_lines cs) ∙ omega (arith, length_line (length cs ∷ []), length_calls cs)

pub length_refused : (k : ℕ) → length (refused k) ≡ 17
unfolding refused
length_refused k = length_line (0 ∷ k ∷ [])

-- ---- one piece behind the other

pub piece_then : (l m : List ℕ) (at pos v : ℕ) (ws : List ℕ) → m ≡ written l at (field v) → pos ≡ at + 8
    → written m pos ws ≡ written l at (field v ++ ws)
piece_then l m at pos v ws e p = then l m at pos (field v) ws e (omega (arith, p, length_field v))

pub field_then : (l m : List ℕ) (at pos v : ℕ) (vs : List ℕ) → m ≡ written l at (field v) → pos ≡ at + 8
    → written m pos (line vs) ≡ written l at (line (v ∷ vs))
unfolding line
field_then l m at pos v vs e p = piece_then l m at pos v (line vs) e p

-- ---- from the right

set_swap : (l : List ℕ) (i j x y : ℕ) → i < j → set (set l j y) i x ≡ set (set l i x) j y
set_swap [] i j x y h = refl
set_swap (a ∷ l) zero zero x y h = absurd (omega arith)
set_swap (a ∷ l) zero (suc j) x y h = refl
set_swap (a ∷ l) (suc i) zero x y h = absurd (omega arith)
set_swap (a ∷ l) (suc i) (suc j) x y h = ap (λ (m : List ℕ). a ∷ m) (set_swap l i j x y (omega arith))

written_set : (l : List ℕ) (at : ℕ) (ws : List ℕ) (j y : ℕ) → at + length ws ≤ j
    → written (set l j y) at ws ≡ set (written l at ws) j y
unfolding written
written_set l at [] j y h = refl
written_set l at (w ∷ ws) j y h =
    rw (set_swap l at j w y (omega arith)) (written_set (set l at w) (at + 1) ws j y (omega arith))

-- the last column first
pub last_column : (l : List ℕ) (at k v y : ℕ)
    → written (set l (at + k) y) at (digits k v) ≡ written l at (digits k v ++ (y ∷ []))
unfolding written
last_column l at k v y =
    let q : at + k ≡ at + length (digits k v) = omega (arith, length_digits k v) in
    rw q (written_set l at (digits k v) (at + length (digits k v)) y (omega arith) ∙ written_append l at (digits k v) (y ∷ []))
