-- Where all other indices are farther than the nearest one and the highest cost together, it is chosen. Assumes nothing.
use Prim.Native.Nat.{ℕ, ◌+◌, ◌-◌, ◌*◌, ◌^◌, ◌/◌, ◌%◌, ◌≤◌, ◌<◌}
use mathlib.Core.Bool.{Bool, true, false}
use mathlib.Core.Path.{◌≡◌, refl, ap, ◌∙◌}
use mathlib.Core.List.{List}
use mathlib.Core.Logic.{inl, inr}
use native.Mathlib.Omega.{arith}
use lib.Dec.{T}
use lib.ListN.{get_or}
use lib.Ieee.{Float, nan, binary32, add, sub, mul, lt, fits}
use lib.Ieee.Fits.{mul-fits, nan-fits}
use borrow.Author.Tests.{lt-leb, ne_eqb}
use Rattle.lists.specs.Counted.{all_below}
use Rattle.lists.proofs.Counted.{all_below_at}
use Rattle.ieee.specs.Bounds.{NotNeg}
use Rattle.ieee.proofs.Grows.{Grows, grows_of_le}
use Rattle.ieee.proofs.Signs.{add_not_neg, mul_not_neg, square_not_neg, not_neg_of_test, zero_bits}
use Rattle.ieee.proofs.Monotone.{mul_grows}
use Rattle.context.specs.Order.{rank_of}
use Rattle.context.proofs.Order.{order_distinct, order_has}
use Rattle.rows.specs.Rows.{around_row, row_order, Fits}
use Rattle.rows.proofs.Laws.{row_ok_holds, rank_row}
use Rattle.cells.specs.Cell.{square, squares_of, rates_of, cell_of}
use Rattle.cells.specs.Sure.{Capped, Priced, Skips, passed_by, sole_by}
use Rattle.cells.proofs.Eight.{eight_at, eight_each}
use Rattle.cells.proofs.Order.{order_under, order_few}
use Rattle.cells.proofs.Strict.{always_less, lt_of_less, less_back}
use Rattle.cells.proofs.Sole.{sole_chosen}

module _ (x : Float) (colours costs : List Float) (n ctx : ℕ) (lambda cap : Float)
    (two : 2 ≤ n) (most : n ≤ 8) (context : ctx < 5) (priced : Priced costs lambda) (capped : Capped costs n cap) where
  abbrev dist : ℕ → Float
  dist i = get_or (squares_of x colours) i nan

  abbrev rate : ℕ → Float
  rate r = get_or (rates_of costs n ctx false) r nan

  dist_plus : (i : ℕ) → NotNeg (dist i)
  unfolding squares_of
  dist_plus i = eight_each NotNeg (λ j. square x (get_or colours j nan)) (λ j. square_not_neg binary32 (sub binary32 x (get_or colours j nan))) tt i

  dist_fits : (i : ℕ) → T (fits binary32 (dist i))
  unfolding squares_of
  dist_fits i = eight_each (λ d. T (fits binary32 d)) (λ j. square x (get_or colours j nan)) (λ j. mul-fits binary32 _ _) (nan-fits binary32) i

  cap_plus : NotNeg cap
  cap_plus = elim capped [ inl e ↦ rw e tt | inr p ↦ not_neg_of_test cap (rw (← zero_bits binary32, p.0) tt) ]

  rate_is : (r : ℕ) → r < 8 → rate r ≡ get_or costs (21 + (n - 2) * 40 + (ctx * 8 + r)) nan
  unfolding rates_of
  rate_is r h =
      let at : 21 + ((n - 2) * 5 + ctx) * 8 + r ≡ 21 + (n - 2) * 40 + (ctx * 8 + r) = omega arith in
      eight_at (λ k. get_or costs (21 + ((n - 2) * 5 + ctx) * 8 + k) nan) r h ∙ ap (λ (i : ℕ). get_or costs i nan) at

  rate_plus : (r : ℕ) → r < 8 → NotNeg (rate r)
  rate_plus r h = rw (rate_is r h) (priced.plus (21 + (n - 2) * 40 + (ctx * 8 + r)))

  rate_capped : (r : ℕ) → r < 8 → Grows (rate r) cap
  rate_capped r h = elim capped [
    | inl e ↦ rw e tt
    | inr p ↦
        let fact = all_below_at (λ k. lib.Ieee.le (get_or costs (21 + (n - 2) * 40 + k) nan) cap) 40 p.1 (ctx * 8 + r) (omega (arith, h, context)) in
        grows_of_le (rate r) cap (rate_plus r h) cap_plus (rw (rate_is r h, fact) tt)
  ]

  paid_plus : (r : ℕ) → r < 8 → NotNeg (mul binary32 lambda (rate r))
  paid_plus r h = mul_not_neg binary32 lambda (rate r) priced.mild.1 (rate_plus r h)

  paid_capped : (r : ℕ) → r < 8 → Grows (mul binary32 lambda (rate r)) (mul binary32 lambda cap)
  paid_capped r h = mul_grows binary32 lambda (rate r) cap (2 ^ 20) priced.mild.0 (rate_capped r h)

  module _ (b row : ℕ) (under : b < n) (fit : Fits row n) (skips : List Bool) (skip : Skips n skips)
      (alone : all_below (passed_by (squares_of x colours) (add binary32 (dist b) (mul binary32 lambda cap)) skips (b * 8)) 8 ≡ true) where
    farther : (i : ℕ) → i < n → (i ≡ b → ⊥) → lt (add binary32 (dist b) (mul binary32 lambda cap)) (dist i) ≡ true
    farther i h apart =
        let passed = all_below_at (passed_by (squares_of x colours) (add binary32 (dist b) (mul binary32 lambda cap)) skips (b * 8)) 8 alone i (omega arith) in
        let low : (b * 8 + i) % 8 ≡ i = omega arith in
        let high : (b * 8 + i) / 8 ≡ b = omega arith in
        let no : get_or skips (b * 8 + i) false ≡ false =
        skip (b * 8 + i) (omega arith) ∙ rw (low, high, lt-leb n i h, ne_eqb i b apart) refl in
        rw no at passed

    wins : (i r q : ℕ) → i < n → (i ≡ b → ⊥) → r < 8 → q < 8
        → (lt (add binary32 (dist b) (mul binary32 lambda (rate r))) (add binary32 (dist i) (mul binary32 lambda (rate q))) ≡ true)
        × (lt (add binary32 (dist i) (mul binary32 lambda (rate q))) (add binary32 (dist b) (mul binary32 lambda (rate r))) ≡ false)
    wins i r q h apart g k =
        let u = mul binary32 lambda (rate r) in
        let v = mul binary32 lambda (rate q) in
        let less = always_less (dist b) (dist i) (mul binary32 lambda cap) u v (dist_plus b) (dist_plus i)
        (mul_not_neg binary32 lambda cap priced.mild.1 cap_plus) (paid_plus r g) (paid_plus q k) (dist_fits i)
        (paid_capped r g) (paid_capped q k) (farther i h apart) in
        let p = add_not_neg binary32 (dist b) u (dist_plus b) (paid_plus r g) in
        let s = add_not_neg binary32 (dist i) v (dist_plus i) (paid_plus q k) in
        (lt_of_less (add binary32 (dist b) u) (add binary32 (dist i) v) p s less, less_back (add binary32 (dist b) u) (add binary32 (dist i) v) p s less)

    pub sole_cell : sole_by (squares_of x colours) (rates_of costs n ctx false) row b
        ≡ cell_of (squares_of x colours) (rates_of costs n ctx false) lambda (row_order row n)
    unfolding rank_of
    sole_cell =
        let a = around_row row in
        let ok = row_ok_holds row n fit in
        let one = sole_chosen (squares_of x colours) (rates_of costs n ctx false) lambda n b wins (row_order row n)
        (order_few a n ok most) (order_under a n ok) (order_distinct a n ok) (order_has a n b under) in
        rw (one, rank_row row n fit most b under) refl
