-- Laws of `written`: runs one after the other are one run, the length stays, and a run from the front is in front of the rest.
-- Assumes nothing.
use mathlib.Core.Path.{◌≡◌, refl, ◌∙◌}
use mathlib.Core.List.{List, [], ◌∷◌, ◌++◌}
use Prim.Native.Nat.{ℕ, suc, ◌+◌, ◌≤◌}
use native.Mathlib.Nat.{add-zero, zero-add}
use native.Mathlib.Numerals.{add-one}
use native.Mathlib.Omega.{arith}
use lib.ListN.{length, take, drop, set, length-set}
use lib.Seq.{sets, sets-eq, take_at}
use Rattle.lists.specs.Counted.{up_to}
use Rattle.lists.specs.Written.{written, front}
use Rattle.lists.proofs.Counted.{length_up_to}

pub length_written : (l : List ℕ) (at : ℕ) (ws : List ℕ) → length (written l at ws) ≡ length l
unfolding written
length_written l at [] = refl
length_written l at (w ∷ ws) = length_written (set l at w) (at + 1) ws ∙ length-set l at w

-- what one emitter wrote, and the next behind it
pub written_append : (l : List ℕ) (at : ℕ) (xs ys : List ℕ) → written (written l at xs) (at + length xs) ys ≡ written l at (xs ++ ys)
unfolding written
written_append l at [] ys = rw add-zero refl
written_append l at (x ∷ xs) ys =
    let e : at + suc (length xs) ≡ at + 1 + length xs = omega arith in
    rw e (written_append (set l at x) (at + 1) xs ys)

pub then : (l m : List ℕ) (at pos : ℕ) (us vs : List ℕ) → m ≡ written l at us → pos ≡ at + length us
    → written m pos vs ≡ written l at (us ++ vs)
then l m at pos us vs e p = rw (e, p) (written_append l at us vs)

-- one more piece of a counted list; and where each piece is one word
pub written_more : (f : ℕ → List ℕ) (l : List ℕ) (at n : ℕ)
    → written (written l at (up_to f n)) (at + length (up_to f n)) (f n) ≡ written l at (up_to f (n + 1))
unfolding up_to
written_more f l at n = rw add-one (written_append l at (up_to f n) (f n))

pub written_next : (g : ℕ → ℕ) (l : List ℕ) (at n : ℕ)
    → written (written l at (up_to (λ i. g i ∷ []) n)) (at + n) (g n ∷ []) ≡ written l at (up_to (λ i. g i ∷ []) (n + 1))
written_next g l at n = rw (length_up_to g n) at (written_more (λ i. g i ∷ []) l at n)

as_sets : {A : Type 0} (l : List A) (at : ℕ) (ws : List A) → written l at ws ≡ sets l at ws
unfolding written
as_sets l at [] = refl
as_sets l at (w ∷ ws) = rw add-one (as_sets (set l at w) (suc at) ws)

pub written_front : {A : Type 0} (l ws : List A) → length ws ≤ length l → written l 0 ws ≡ front ws l
unfolding front
written_front l ws h =
    let k : 0 + length ws ≤ length l = omega arith in
    as_sets l 0 ws ∙ sets-eq ws l 0 k ∙ rw zero-add refl

-- what was written from the front, read back
pub written_take : (l ws : List ℕ) → length ws ≤ length l → take (length ws) (written l 0 ws) ≡ ws
unfolding front
written_take l ws h = rw (written_front l ws h) (take_at ws (drop (length ws) l) (length ws) refl)
