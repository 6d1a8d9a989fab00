-- What stands at a place of the tables, and that a row answers for each n that its neighbours are below. Assumes nothing.
use Prim.Native.Nat.{ℕ, zero, suc, ◌+◌, ◌-◌, ◌*◌, ◌/◌, ◌%◌, ◌≤◌, ◌<◌}
use mathlib.Core.Bool.{Bool, true, false, cond, ◌||◌, false≢true}
use mathlib.Core.Path.{◌≡◌, refl, sym, ap, ◌∙◌}
use mathlib.Core.List.{List, [], ◌∷◌, ◌++◌}
use native.Mathlib.Omega.{arith}
use lib.Dec.{eqb}
use lib.ListN.{length, get_or, get_or-append, length-append}
use lib.Seq.{get_or-append-add}
use Rattle.lists.specs.Counted.{elem}
use Rattle.context.specs.Order.{Around, by_three, order_of, place, rank_of}
use Rattle.context.proofs.Order.{FirstsOk, order_next, order_length, order_has, rank_below}
use Rattle.context.proofs.Others.{added}
use Rattle.context.proofs.Around.{three_ok}
use Rattle.rows.specs.Rows.{row_of, around_row, Fits, row_order, order_row, code_at, code_row, rows_from, order_table, code_table}

-- place q of row j, where each row has eight
row_place : (f : ℕ → List ℕ) → ((k : ℕ) → k < 512 → length (f k) ≡ 8) → (k count j q : ℕ) → k + count ≤ 512 → j < count → q < 8
    → get_or (rows_from f k count) (j * 8 + q) 0 ≡ get_or (f (k + j)) q 0
unfolding rows_from
row_place f e k zero j q m h g = absurd (omega arith)
row_place f e k (suc count) zero q m h g =
    let z : k + 0 ≡ k = omega arith in
    let i : 0 * 8 + q ≡ q = omega arith in
    rw (z, i) (get_or-append (f k) (rows_from f (k + 1) count) 0 q (omega (arith, e k (omega arith))))
row_place f e k (suc count) (suc j) q m h g =
    let z : k + suc j ≡ k + 1 + j = omega arith in
    let i : suc j * 8 + q ≡ length (f k) + (j * 8 + q) = omega (arith, e k (omega arith)) in
    rw (z, i) (get_or-append-add (f k) (rows_from f (k + 1) count) (j * 8 + q) 0 ∙ row_place f e (k + 1) count j q (omega arith) (omega arith) g)

-- the neighbours of a row
pub row_parts : (l t d : ℕ) → l < 8 → t < 8 → d < 8
    → (row_of l t d < 512) × (row_of l t d / 64 ≡ l) × (row_of l t d / 8 % 8 ≡ t) × (row_of l t d % 8 ≡ d)
row_parts l t d h g k = (omega arith, omega arith, omega arith, omega arith)

pub row_around : (l t d : ℕ) → l < 8 → t < 8 → d < 8 → around_row (row_of l t d) ≡ by_three l t d
row_around l t d h g k =
    let e = row_parts l t d h g k in
    rw (e.1, e.2, e.3) refl

pub row_fits : (l t d n : ℕ) → l < n → t < n → d < n → n ≤ 8 → Fits (row_of l t d) n
row_fits l t d n h g k m =
    let e = row_parts l t d (omega arith) (omega arith) (omega arith) in
    (e.0, rw e.1 h, rw e.2 g, rw e.3 k)

pub row_ok_holds : (k n : ℕ) → Fits k n → FirstsOk (around_row k) n
row_ok_holds k n fits = three_ok n _ _ _ fits.1 fits.2 fits.3

pub eight_fits : (k : ℕ) → k < 512 → Fits k 8
eight_fits k h = (h, omega arith, omega arith, omega arith)

-- what the tables hold
pub order_in : (k q : ℕ) → k < 512 → q < 8 → get_or order_table (k * 8 + q) 0 ≡ get_or (order_row k) q 0
unfolding order_table
order_in k q h g =
    row_place order_row (λ i p. order_length (around_row i) 8 (row_ok_holds i 8 (eight_fits i p))) 0 512 k q (omega arith) h g
    ∙ ap (λ (i : ℕ). get_or (order_row i) q 0) (omega arith)

code_place : (k i : ℕ) → i < 8 → get_or (code_row k) i 0 ≡ code_at k i
code_place k zero h = refl
code_place k (suc zero) h = refl
code_place k (suc (suc zero)) h = refl
code_place k (suc (suc (suc zero))) h = refl
code_place k (suc (suc (suc (suc zero)))) h = refl
code_place k (suc (suc (suc (suc (suc zero))))) h = refl
code_place k (suc (suc (suc (suc (suc (suc zero)))))) h = refl
code_place k (suc (suc (suc (suc (suc (suc (suc zero))))))) h = refl
code_place k (suc (suc (suc (suc (suc (suc (suc (suc i)))))))) h = absurd (omega arith)

pub code_in : (k i : ℕ) → k < 512 → i < 8 → get_or code_table (k * 8 + i) 0 ≡ code_at k i
unfolding code_table
code_in k i h g =
    row_place code_row (λ j p. refl) 0 512 k i (omega arith) h g ∙ ap (λ (j : ℕ). get_or (code_row j) i 0) (omega arith) ∙ code_place k i g

-- a rank of eight is below 8
pub rank_eight : (k i : ℕ) → k < 512 → i < 8 → rank_of (around_row k) 8 i < 8
rank_eight k i h g = rank_below (around_row k) 8 (row_ok_holds k 8 (eight_fits k h)) i g

-- ---- fewer indices: the front of the order of eight

longer : (a : Around) (n j q : ℕ) → q < length (order_of a n)
    → (q < length (order_of a (n + j))) × (get_or (order_of a (n + j)) q 0 ≡ get_or (order_of a n) q 0)
longer a n zero q h = let z : n + 0 ≡ n = omega arith in rw z (h, refl)
longer a n (suc j) q h =
    let z : n + suc j ≡ suc (n + j) = omega arith in
    let more = longer a n j q h in
    let new : List ℕ = added (elem (n + j) a.firsts) (n + j) in
    rw (z, order_next a (n + j))
    (omega (arith, more.0, length-append (order_of a (n + j)) new), get_or-append (order_of a (n + j)) new 0 q more.0 ∙ more.1)

-- what stands in a list has the same place in a longer one
place_front : (x : ℕ) (ys zs : List ℕ) → elem x ys ≡ true → place x (ys ++ zs) ≡ place x ys
unfolding elem place
place_front x [] zs t = absurd (false≢true t)
place_front x (y ∷ ys) zs t =
    let go : (b : Bool) → b || elem x ys ≡ true → cond b 0 (suc (place x (ys ++ zs))) ≡ cond b 0 (suc (place x ys)) =
    elim [ true ↦ λ u. refl | false ↦ λ u. ap (λ (k : ℕ). suc k) (place_front x ys zs u) ] in
    go (eqb x y) t

rank_longer : (a : Around) (n j i : ℕ) → i < n → rank_of a (n + j) i ≡ rank_of a n i
unfolding rank_of
rank_longer a n zero i h = let z : n + 0 ≡ n = omega arith in rw z refl
rank_longer a n (suc j) i h =
    let z : n + suc j ≡ suc (n + j) = omega arith in
    rw (z, order_next a (n + j))
    (place_front i (order_of a (n + j)) (added (elem (n + j) a.firsts) (n + j)) (order_has a (n + j) i (omega arith))
    ∙ rank_longer a n j i h)

module _ (k n : ℕ) (fits : Fits k n) (most : n ≤ 8) where
  whole : n + (8 - n) ≡ 8
  whole = omega arith

  pub row_length : length (row_order k n) ≡ n
  row_length = order_length (around_row k) n (row_ok_holds k n fits)

  pub order_row_is : (q : ℕ) → q < n → get_or (order_row k) q 0 ≡ get_or (row_order k n) q 0
  order_row_is q h =
      ap (λ (i : ℕ). get_or (row_order k i) q 0) (sym whole)
      ∙ (longer (around_row k) n (8 - n) q (omega (arith, row_length))).1

  pub rank_row : (i : ℕ) → i < n → rank_of (around_row k) 8 i ≡ rank_of (around_row k) n i
  rank_row i h = ap (λ (m : ℕ). rank_of (around_row k) m i) (sym whole) ∙ rank_longer (around_row k) n (8 - n) i h
