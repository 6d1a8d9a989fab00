-- The row of a cell: by the places beside it, and that it gives the cell's order and ranks. Assumes nothing.
use Prim.Native.Nat.{ℕ, zero, suc, ◌+◌, ◌-◌, ◌*◌, ◌<◌, ◌≤◌}
use mathlib.Core.Path.{◌≡◌, refl, ap, ◌∙◌}
use mathlib.Core.List.{List, [], ◌∷◌, ◌++◌}
use native.Mathlib.Nat.{suc-mul}
use native.Mathlib.Omega.{arith}
use lib.ListN.{get_or}
use borrow.Author.Tests.{eq-eqb, ne_eqb}
use Rattle.lists.specs.Counted.{elem}
use Rattle.context.specs.Map.{cell}
use Rattle.context.specs.Order.{Around, choose, by_three, around, others, order_of, place, rank_of}
use Rattle.context.proofs.Order.{order_below, rank_below}
use Rattle.rows.specs.Rows.{row_of, around_row, order_row}
use Rattle.rows.proofs.Laws.{row_ok_holds, row_around, row_fits, order_row_is, rank_row}
use Rattle.near.specs.declared.Key.{Key}
use Rattle.near.specs.Near.{edge_key, three_key, key_at, Below, Keyed}

module _ (map : List ℕ) (w : ℕ) where
  pub key_none : (y x : ℕ) → y ≡ 0 → x ≡ 0 → key_at map w y x ≡ edge_key 0
  unfolding key_at
  key_none y x e f = rw (e, f) refl

  pub key_top : (y x : ℕ) → y ≡ 0 → 0 < x → key_at map w y x ≡ edge_key (get_or map (y * w + x - 1) 0)
  unfolding key_at cell
  key_top (suc y) x e h = absurd (omega arith)
  key_top zero zero e h = absurd (omega arith)
  key_top zero (suc x) e h = let f : 0 * w + suc x - 1 ≡ 0 * w + x = omega arith in rw f refl

  pub key_side : (y x : ℕ) → 0 < y → x ≡ 0 → key_at map w y x ≡ edge_key (get_or map (y * w + x - w) 0)
  unfolding key_at cell
  key_side zero x h e = absurd (omega arith)
  key_side (suc y) (suc x) h e = absurd (omega arith)
  key_side (suc y) zero h e = let f : suc y * w + 0 - w ≡ y * w + 0 = omega (arith, suc-mul y w) in rw f refl

  pub key_three : (y x : ℕ) → 0 < y → 0 < x
      → key_at map w y x ≡ three_key (get_or map (y * w + x - 1) 0) (get_or map (y * w + x - w) 0) (get_or map (y * w + x - w - 1) 0)
  unfolding key_at cell
  key_three zero x h k = absurd (omega arith)
  key_three (suc y) zero h k = absurd (omega arith)
  key_three (suc y) (suc x) h k =
      let l : suc y * w + suc x - 1 ≡ suc y * w + x = omega arith in
      let t : suc y * w + suc x - w ≡ y * w + suc x = omega (arith, suc-mul y w) in
      let d : suc y * w + suc x - w - 1 ≡ y * w + x = omega (arith, suc-mul y w) in
      rw (d, t, l) refl

edge_order : (v n : ℕ) → order_of (by_three v v v) n ≡ v ∷ others (v ∷ []) n
unfolding order_of by_three choose
edge_order v n = rw (eq-eqb v v refl) refl

-- three neighbours below n
three_order : (l t d n : ℕ) → l < 8 → t < 8 → d < 8 → order_of (around_row (row_of l t d)) n ≡ order_of (by_three l t d) n
three_order l t d n h g k = ap (λ (a : Around). order_of a n) (row_around l t d h g k)

pub edge_keyed : (v n : ℕ) → v < n → n ≤ 8 → Keyed (record { ctx = 0; firsts = v ∷ [] }) n (edge_key v)
unfolding order_of
edge_keyed v n h m = record {
  fits = row_fits v v v n h h h m;
  order = three_order v v v n (omega arith) (omega arith) (omega arith) ∙ edge_order v n;
  ctx = refl;
}

-- index 0 first is the index order
zero_first : (n : ℕ) → 0 ∷ others (0 ∷ []) (suc n) ≡ others [] (suc n)
unfolding others elem
zero_first zero = refl
zero_first (suc n) = rw (ne_eqb (suc n) 0 (λ e. omega arith)) (ap (λ (l : List ℕ). l ++ (suc n ∷ [])) (zero_first n))

none_keyed : (n : ℕ) → 0 < n → n ≤ 8 → Keyed (record { ctx = 0; firsts = [] }) n (edge_key 0)
unfolding order_of
none_keyed zero h m = absurd (omega arith)
none_keyed (suc n) h m = record {
  fits = row_fits 0 0 0 (suc n) h h h m;
  order = three_order 0 0 0 (suc n) (omega arith) (omega arith) (omega arith) ∙ edge_order 0 (suc n) ∙ zero_first n;
  ctx = refl;
}

pub three_keyed : (l t d n : ℕ) → l < n → t < n → d < n → n ≤ 8 → Keyed (by_three l t d) n (three_key l t d)
three_keyed l t d n h g k m = record {
  fits = row_fits l t d n h g k m;
  order = three_order l t d n (omega arith) (omega arith) (omega arith);
  ctx = refl;
}

pub keyed : (m : List ℕ) (w y x n : ℕ) → Below m n → 0 < n → n ≤ 8 → Keyed (around by_three m w y x) n (key_at m w y x)
unfolding key_at around cell
keyed m w zero zero n b p z = none_keyed n p z
keyed m w zero (suc x) n b p z = edge_keyed _ n (b _) z
keyed m w (suc y) zero n b p z = edge_keyed _ n (b _) z
keyed m w (suc y) (suc x) n b p z = three_keyed _ _ _ n (b _) (b _) (b _) z

-- what a row tells of a cell: the index at a rank, the rank of an index, both below n
module _ (a : Around) (n : ℕ) (k : Key) (key : Keyed a n k) (most : n ≤ 8) where
  pub key_index : (r : ℕ) → r < n → get_or (order_row k.row) r 0 ≡ get_or (order_of a n) r 0
  key_index r h = order_row_is k.row n key.fits most r h ∙ ap (λ (o : List ℕ). get_or o r 0) key.order

  pub key_rank : (i : ℕ) → i < n → rank_of (around_row k.row) 8 i ≡ rank_of a n i
  unfolding rank_of
  key_rank i h = rank_row k.row n key.fits most i h ∙ ap (place i) key.order

  pub key_index_below : (r : ℕ) → r < n → get_or (order_of a n) r 0 < n
  key_index_below r h = rw (← key.order) (order_below (around_row k.row) n (row_ok_holds k.row n key.fits) r h)

  pub key_rank_below : (i : ℕ) → i < n → rank_of a n i < n
  unfolding rank_of
  key_rank_below i h = rw (← key.order) (rank_below (around_row k.row) n (row_ok_holds k.row n key.fits) i h)
