-- The word of a cell by its row, and by its key where it has three neighbours. Assumes nothing.
use Prim.Native.Nat.{ℕ, zero, suc, ◌+◌, ◌-◌, ◌*◌, ◌/◌, ◌%◌, ◌≤◌, ◌<◌}
use mathlib.Core.Path.{◌≡◌, refl, ◌∙◌}
use mathlib.Core.Bool.{Bool, true, false, ◌&&◌}
use mathlib.Core.List.{List, [], ◌∷◌}
use native.Mathlib.Nat.{suc-mul}
use native.Mathlib.Omega.{arith}
use lib.Dec.{eqb}
use lib.ListN.{length, get_or, set}
use lib.Seq.{get_or-set_same, get_or-set_other}
use borrow.Author.Tests.{ne_eqb, eqb-true, eqb-false}
use Rattle.lists.specs.Written.{written}
use Rattle.lists.proofs.Written.{written_next}
use Rattle.context.specs.Map.{cell, row_at, col_at}
use Rattle.context.specs.Order.{Around, by_three, around, rank_of}
use Rattle.context.proofs.Around.{three_ctx, around_ctx}
use Rattle.context.proofs.Places.{around_three, row_above}
use Rattle.rows.specs.Rows.{row_of, around_row}
use Rattle.rows.proofs.Laws.{row_parts, row_around, code_in}
use Rattle.near.specs.Near.{three_key, key_at, Below, Keyed}
use Rattle.near.proofs.Keys.{three_keyed, keyed, key_rank, key_rank_below}
use Rattle.literals.specs.Words.{word}
use Rattle.emit.specs.Map.{ranked_word, cell_word, LinesInside}
use Rattle.emit.specs.Keys.{key_of, Inner, Coded, Extends}

-- past the end stands 0
pub below_all : (m : List ℕ) (n : ℕ) → 0 < n → ((i : ℕ) → i < length m → get_or m i 0 < n) → Below m n
below_all [] n h b i = h
below_all (x ∷ m) n h b zero = b 0 (omega arith)
below_all (x ∷ m) n h b (suc i) = below_all m n h (λ j g. b (suc j) (omega arith)) i

-- one place more is filled
pub filled : (f : ℕ → ℕ) (l : List ℕ) (from k v : ℕ) → k < length l → ((i : ℕ) → from ≤ i → i < k → get_or l i 0 ≡ f i) → v ≡ f k
    → (i : ℕ) → from ≤ i → i < k + 1 → get_or (set l k v) i 0 ≡ f i
filled f l from k v room so_far here i h g = go (eqb i k) refl
  where
    go : (b : Bool) → eqb i k ≡ b → get_or (set l k v) i 0 ≡ f i
    go true e = rw (eqb-true i k e) (get_or-set_same l k v 0 room ∙ here)
    go false e = let other : i ≡ k → ⊥ = eqb-false i k e in get_or-set_other l k i v 0 other ∙ so_far i h (omega arith)

-- the word of a code
abbrev pub code_word : ℕ → ℕ → ℕ
code_word n c = word 5 ((n - 2) * 5 + c / 8) (c % 8)

-- cell (0,0), and each other by rank
pub corner : (y x : ℕ) → eqb y 0 && eqb x 0 ≡ eqb (y + x) 0
corner zero zero = refl
corner zero (suc x) = rw (ne_eqb (0 + suc x) 0 (λ q. omega arith), ne_eqb (suc x) 0 (λ q. omega arith)) refl
corner (suc y) x = rw (ne_eqb (suc y + x) 0 (λ q. omega arith), ne_eqb (suc y) 0 (λ q. omega arith)) refl

module _ (m : List ℕ) (w n y x : ℕ) where
  pub corner_word : eqb (y + x) 0 ≡ true → word 2 n (get_or m (y * w + x) 0) ≡ cell_word 5 by_three n m w y x
  unfolding cell_word cell
  corner_word e = rw e refl

  by_rank : eqb (y + x) 0 ≡ false → ranked_word 5 (around by_three m w y x) n (get_or m (y * w + x) 0) ≡ cell_word 5 by_three n m w y x
  unfolding cell_word cell
  by_rank e = rw e refl

-- by the row
module _ (m : List ℕ) (w n y x : ℕ) (two : 2 ≤ n) (eight : n ≤ 8) (below : Below m n) where
  key : Keyed (around by_three m w y x) n (key_at m w y x)
  key = keyed m w y x n below (omega arith) eight

  pub row_low : (key_at m w y x).row < 512
  row_low = key.fits.0

  pub ctx_low : (key_at m w y x).ctx < 5
  ctx_low = rw key.ctx (around_ctx m w y x)

  pub rank_low : rank_of (around_row (key_at m w y x).row) 8 (get_or m (y * w + x) 0) < 8
  rank_low =
      let a = around by_three m w y x in
      let i = get_or m (y * w + x) 0 in
      omega (arith, key_rank a n (key_at m w y x) key eight i (below _), key_rank_below a n (key_at m w y x) key eight i (below _))

  pub word_by_row : eqb (y + x) 0 ≡ false
      → word 5 ((n - 2) * 5 + (key_at m w y x).ctx) (rank_of (around_row (key_at m w y x).row) 8 (get_or m (y * w + x) 0)) ≡ cell_word 5 by_three n m w y x
  unfolding ranked_word
  word_by_row e =
      let a = around by_three m w y x in
      rw (key_rank a n (key_at m w y x) key eight (get_or m (y * w + x) 0) (below _), key.ctx) refl ∙ by_rank m w n y x e

-- eight times k, and a rank
parts : (k r : ℕ) → r < 8 → ((k * 8 + r) / 8 ≡ k) × ((k * 8 + r) % 8 ≡ r)
parts k r h = (omega arith, omega arith)

module _ (m codes words : List ℕ) (w n y x : ℕ) (two : 2 ≤ n) (eight : n ≤ 8) (below : Below m n) (down : 0 < y) (right : 0 < x)
    (coded : Coded n codes words) where
  abbrev p : ℕ
  p = y * w + x

  abbrev l : ℕ
  l = get_or m (p - 1) 0

  abbrev t : ℕ
  t = get_or m (p - w) 0

  abbrev d : ℕ
  d = get_or m (p - w - 1) 0

  abbrev i : ℕ
  i = get_or m p 0

  abbrev three : Around
  three = by_three l t d

  low : (q : ℕ) → get_or m q 0 < 8
  low q = omega (arith, below q)

  low_rank : rank_of three n i < n
  low_rank = key_rank_below three n (three_key l t d) (three_keyed l t d n (below _) (below _) (below _) eight) eight i (below p)

  pub key_low : key_of m w p < 4096
  key_low = omega (arith, (row_parts l t d (low _) (low _) (low _)).0, low p)

  code : get_or codes (key_of m w p) 0 ≡ three.ctx * 8 + rank_of three n i
  code =
      let rank = key_rank three n (three_key l t d) (three_keyed l t d n (below _) (below _) (below _) eight) eight i (below p) in
      rw coded.table
      (code_in (row_of l t d) i (row_parts l t d (low _) (low _) (low _)).0 (low p)
      ∙ rw (rank, row_around l t d (low _) (low _) (low _)) refl)

  pub code_low : get_or codes (key_of m w p) 0 < 40
  code_low = omega (arith, code, low_rank, three_ctx l t d)

  pub word_by_key : get_or words (get_or codes (key_of m w p) 0) 0 ≡ cell_word 5 by_three n m w y x
  unfolding ranked_word
  word_by_key =
      let e = parts three.ctx (rank_of three n i) (omega (arith, low_rank)) in
      let ranked : get_or words (get_or codes (key_of m w p) 0) 0 ≡ ranked_word 5 (around by_three m w y x) n i =
      coded.each _ code_low ∙ rw (code, around_three m w y x down right, e.0, e.1) refl in
      ranked ∙ by_rank m w n y x (ne_eqb (y + x) 0 (λ q. omega arith))

-- line and place past the first are row and column past the first
pub past_first : (t : Bool) (l a : ℕ) → 0 < l → 0 < a → (0 < row_at t l a) × (0 < col_at t l a)
past_first true l a h g = (g, h)
past_first false l a h g = (h, g)

-- ---- the keys of a line

pub columns_inner : (m : List ℕ) (w n l count : ℕ) → LinesInside m w n true (l + 1) count → 0 < l → Inner (length m) w l w 1 count
columns_inner m w n l count i h a g k = (omega (arith, row_above a w g), omega (arith, i.place l a (omega arith) k))

-- in the second row the first cell has nothing between left and above
pub rows_inner : (m : List ℕ) (w n l count from : ℕ) → LinesInside m w n false (l + 1) count → 0 < l → (l ≡ 1 → from ≡ 1)
    → Inner (length m) w (l * w) 1 from count
rows_inner m w n zero count from i h e a g k = absurd (omega arith)
rows_inner m w n (suc zero) count from i h e a g k = (omega (arith, e refl), omega (arith, i.place 1 a (omega arith) k))
rows_inner m w n (suc (suc l)) count from i h e a g k =
    (omega (arith, suc-mul (suc l) w, suc-mul l w, i.column (suc (suc l)) a (omega arith) k), omega (arith, i.place (suc (suc l)) a (omega arith) k))

-- ---- the words of keys

-- one word more, and two runs of words
module _ (g : ℕ → ℕ) (from k at : ℕ) (old new : List ℕ) (h : from ≤ k) (first : Extends g from k at old new) where
  pub extends_next : (v : ℕ) → v ≡ g k → Extends g from (k + 1) at old (set new (at + k) v)
  unfolding written
  extends_next v e f same start s = rw (first f (λ a i j. same a i (omega arith)) start s, e, same k h (omega arith)) (written_next f start at k)

  pub extends_then : (to : ℕ) (last : List ℕ) → k ≤ to → Extends g k to at new last → Extends g from to at old last
  extends_then to last i second f same start s = second f (λ a p q. same a (omega arith) q) start (first f (λ a p q. same a p (omega arith)) start s)
