-- Colours read one after the other, and the first n of eight. Assumes nothing.
use mathlib.Core.Bool.{Bool, true, false, cond, ◌&&◌}
use mathlib.Core.List.{List, [], ◌∷◌}
use mathlib.Core.Path.{◌≡◌, refl, sym}
use Prim.Native.Nat.{ℕ, ◌-◌, ◌^◌, ◌≤◌}
use native.Mathlib.Omega.{arith}
use borrow.Author.Tests.{le-leb, leb-true}
use lib.Dec.{leb, ltb}
use lib.ListN.{length, take}
use lib.Seq.{length-take-le}
use Rattle.lists.proofs.Choice.{and_l, and_false}
use Rattle.lists.proofs.Counted.{within_at}
use Rattle.lists.specs.Counted.{within, above, ascending, all_in}
use Rattle.literals.specs.Literals.{levels_ok}
use Rattle.accept.specs.Accepted.{colors_ok}
use Rattle.accept.specs.Palette.{first_colors}

-- what is left to test after colour c
unfoldable pub levels_after : ℕ → ℕ → List ℕ → Bool
levels_after bd c cs = above c cs && all_in (λ d. leb d (2 ^ bd - 1)) cs

swap : (a b s t : Bool) → (a && b) && (s && t) ≡ (a && s) && (b && t)
swap true true s t = refl
swap true false true t = refl
swap true false false t = refl
swap false b s t = refl

pub levels_first : (bd c : ℕ) (cs : List ℕ) → levels_ok bd (c ∷ cs) ≡ leb c (2 ^ bd - 1) && levels_after bd c cs
unfolding levels_ok levels_after ascending all_in
levels_first bd c cs = swap true (above c cs) (leb c (2 ^ bd - 1)) _

pub levels_next : (bd c d : ℕ) (ds : List ℕ) → levels_after bd c (d ∷ ds) ≡ (ltb c d && leb d (2 ^ bd - 1)) && levels_after bd d ds
unfolding levels_after above all_in
levels_next bd c d ds = swap (ltb c d) (above d ds) (leb d (2 ^ bd - 1)) _

module _ (colors : List ℕ) (eight : length colors ≡ 8) where
  pub first_colors_holds : (n : ℕ) → n ≤ 8 → first_colors colors n ≡ take n colors
  unfolding first_colors
  first_colors_holds n h = rw (le-leb n 8 h) refl

  pub length_first : (n : ℕ) → n ≤ 8 → length (first_colors colors n) ≡ n
  length_first n h = rw (first_colors_holds n h) (length-take-le n colors (omega arith))

  -- more than eight are none
  pub within_first : (n : ℕ) → within 2 8 (length (first_colors colors n)) ≡ within 2 8 n
  unfolding first_colors
  within_first n =
      let go : (b : Bool) → leb n 8 ≡ b → within 2 8 (length (cond b (take n colors) [])) ≡ leb 2 n && b =
      elim [
        | true ↦ λ e. (let f : length (take n colors) ≡ n = length-take-le n colors (omega (arith, leb-true n 8 e)) in rw (f, e) refl)
        | false ↦ λ e. sym (and_false (leb 2 n))
      ] in
      go (leb n 8) refl

  -- colours that pass 11 are n
  pub few_given : (bd n : ℕ) → colors_ok bd (first_colors colors n) ≡ true → n ≤ 8
  unfolding colors_ok
  few_given bd n e =
      (within_at 2 8 n (rw (within_first n) at (and_l (within 2 8 (length (first_colors colors n))) (levels_ok bd (first_colors colors n)) e))).1

  pub length_given : (bd n : ℕ) → colors_ok bd (first_colors colors n) ≡ true → length (first_colors colors n) ≡ n
  length_given bd n e = length_first n (few_given bd n e)
