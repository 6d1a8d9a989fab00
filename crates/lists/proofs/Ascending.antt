-- Strictly ascending lists: from the test to the facts, and what may be left out. Assumes nothing.
use mathlib.Core.Path.{◌≡◌, refl}
use mathlib.Core.Bool.{Bool, true, false, ◌||◌, false≢true}
use mathlib.Core.List.{List, [], ◌∷◌}
use Prim.Native.Nat.{ℕ, zero, suc, ◌+◌, ◌<◌}
use native.Mathlib.Numerals.{add-one}
use native.Mathlib.Omega.{arith}
use lib.Dec.{eqb, ltb}
use lib.ListN.{length, get_or}
use borrow.Author.Tests.{eqb-true, ltb-true, lt-ltb}
use Rattle.lists.specs.Counted.{elem, above, ascending}
use Rattle.lists.proofs.Choice.{and_l, and_r, and_both}

-- what `above` and `ascending` test
abbrev pub Above : ℕ → List ℕ → Type 0
Above c [] = Unit {0}
Above c (d ∷ ds) = (c < d) × Above d ds

abbrev pub Ascending : List ℕ → Type 0
Ascending [] = Unit {0}
Ascending (c ∷ cs) = Above c cs

above_is : (c : ℕ) (ds : List ℕ) → above c ds ≡ true → Above c ds
unfolding above
above_is c [] e = tt
above_is c (d ∷ ds) e = (ltb-true c d (and_l (ltb c d) (above d ds) e), above_is d ds (and_r (ltb c d) (above d ds) e))

pub ascending_is : (cs : List ℕ) → ascending cs ≡ true → Ascending cs
unfolding ascending
ascending_is [] e = tt
ascending_is (c ∷ cs) e = above_is c cs e

is_above : (c : ℕ) (ds : List ℕ) → Above c ds → above c ds ≡ true
unfolding above
is_above c [] a = refl
is_above c (d ∷ ds) a = and_both (ltb c d) (above d ds) (lt-ltb c d a.0) (is_above d ds a.1)

pub is_ascending : (cs : List ℕ) → Ascending cs → ascending cs ≡ true
unfolding ascending
is_ascending [] a = refl
is_ascending (c ∷ cs) a = is_above c cs a

pub above_lower : (b c : ℕ) (ds : List ℕ) → b < c → Above c ds → Above b ds
above_lower b c [] h a = tt
above_lower b c (d ∷ ds) h a = (omega arith, a.1)

pub ascending_tail : (c : ℕ) (cs : List ℕ) → Above c cs → Ascending cs
ascending_tail c [] a = tt
ascending_tail c (d ∷ ds) a = a.1

pub above_elem : (e c : ℕ) (ds : List ℕ) → Above c ds → elem e ds ≡ true → c < e
unfolding elem
above_elem e c [] a t = absurd (false≢true t)
above_elem e c (d ∷ ds) a t =
    let deeper : elem e ds ≡ true → d < e = above_elem e d ds a.1 in
    let go : (b : Bool) → eqb e d ≡ b → b || elem e ds ≡ true → c < e =
    elim [ true ↦ λ p u. omega (arith, eqb-true e d p) | false ↦ λ p u. omega (arith, deeper u) ] in
    go (eqb e d) refl t

-- the tests, at neighbours and after the first
above_at : (c : ℕ) (cs : List ℕ) → above c cs ≡ true → (i : ℕ) → i < length cs → get_or (c ∷ cs) i 0 < get_or cs i 0
unfolding above
above_at c [] e i h = absurd (omega arith)
above_at c (d ∷ ds) e zero h = ltb-true c d (and_l (ltb c d) (above d ds) e)
above_at c (d ∷ ds) e (suc i) h = above_at d ds (and_r (ltb c d) (above d ds) e) i (omega arith)

pub ascending_at : (cs : List ℕ) → ascending cs ≡ true → (i : ℕ) → i + 1 < length cs → get_or cs i 0 < get_or cs (i + 1) 0
unfolding ascending
ascending_at [] e i h = absurd (omega arith)
ascending_at (c ∷ cs) e i h = rw add-one (above_at c cs e i (omega arith))

pub ascends_tail : (c : ℕ) (cs : List ℕ) → ascending (c ∷ cs) ≡ true → ascending cs ≡ true
unfolding ascending above
ascends_tail c [] e = refl
ascends_tail c (d ∷ ds) e = and_r (ltb c d) (above d ds) e
