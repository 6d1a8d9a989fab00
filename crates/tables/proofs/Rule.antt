-- COLOR_ICDF's rule at each row, read off one test over the whole table that the checker computes. Assumes nothing.
use mathlib.Core.Path.{◌≡◌, refl, subst}
use mathlib.Core.Bool.{Bool, true, cond, not, ◌&&◌, ◌||◌}
use Prim.Native.Nat.{ℕ, ◌+◌, ◌-◌, ◌<◌, ◌≤◌}
use native.Mathlib.Decide.{dec_lt}
use native.Mathlib.Omega.{arith}
use lib.Dec.{ltb, leb, eqb}
use borrow.Author.Tests.{ltb-true, leb-true, eqb-true, le-leb, lt-ltb, le-ltb}
use Rattle.lists.specs.Counted.{up_to, all_below}
use Rattle.lists.proofs.Choice.{and_l, and_r}
use Rattle.lists.proofs.Counted.{all_below_at}
use Rattle.tables.specs.Icdf.{color_table, color_rows, color_icdf}
use Rattle.tables.specs.Rule.{RowRule}

-- the rule at one place of a row
abbrev ruled : ℕ → ℕ → ℕ → Bool
ruled n context k =
    let x = color_icdf n context k in
    cond (ltb (k + 1) n) (leb x 32767 && leb 1 x && (not (ltb (k + 2) n) || ltb (color_icdf n context (k + 1)) x)) (eqb x 0)

whole : all_below (λ m. all_below (λ context. all_below (ruled (m + 2) context) 7) 5) 7 ≡ true
unfolding all_below up_to color_icdf color_rows color_table
whole = refl

module _ (n context : ℕ) (two : 2 ≤ n) (eight : n ≤ 8) (five : context < 5) where
  at : (k : ℕ) → k < 7 → ruled n context k ≡ true
  at k h =
      let e : n - 2 + 2 ≡ n = omega arith in
      subst (λ (m : ℕ). ruled m context k ≡ true) e
      (all_below_at (ruled (n - 2 + 2) context) 7
      (all_below_at (λ d. all_below (ruled (n - 2 + 2) d) 7) 5
      (all_below_at (λ m. all_below (λ d. all_below (ruled (m + 2) d) 7) 5) 7 whole (n - 2) (omega arith)) context five) k h)

  -- at a place before the zeros
  inside : (k : ℕ) → k + 1 < n
      → leb (color_icdf n context k) 32767 && leb 1 (color_icdf n context k)
      && (not (ltb (k + 2) n) || ltb (color_icdf n context (k + 1)) (color_icdf n context k)) ≡ true
  inside k h = simp (lt-ltb (k + 1) n h) at (at k (omega arith))

  bounds : (k : ℕ) → k + 1 < n → leb (color_icdf n context k) 32767 && leb 1 (color_icdf n context k) ≡ true
  bounds k h = and_l _ (not (ltb (k + 2) n) || ltb (color_icdf n context (k + 1)) (color_icdf n context k)) (inside k h)

  falling : (k : ℕ) → k + 2 < n → ltb (color_icdf n context (k + 1)) (color_icdf n context k) ≡ true
  falling k h =
      simp (lt-ltb (k + 2) n h) at
      (and_r (leb (color_icdf n context k) 32767 && leb 1 (color_icdf n context k)) _ (inside k (omega arith)))

  -- a row has seven places
  past : (k : ℕ) → 7 ≤ k → color_icdf n context k ≡ 0
  unfolding color_icdf
  past k h = simp (le-leb 2 n two, le-leb n 8 eight, lt-ltb context 5 five, le-ltb k 7 h)

  zero_from : (k : ℕ) → n ≤ k + 1 → color_icdf n context k ≡ 0
  zero_from k h =
      elim (dec_lt k 7) [
        | yes s ↦ eqb-true _ 0 (simp (le-ltb (k + 1) n h) at (at k s))
        | no s ↦ past k (omega arith)
      ]

  pub rule : RowRule n context
  rule =
      record {
        most = λ k h. leb-true _ 32767 (and_l _ (leb 1 (color_icdf n context k)) (bounds k h));
        least = λ k h. leb-true 1 _ (and_r (leb (color_icdf n context k) 32767) _ (bounds k h));
        falls = λ k h. ltb-true _ _ (falling k h);
        zeros = zero_from;
      }
