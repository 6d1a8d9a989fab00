-- What a map's words add to the raw width: the orientation bit, and the uniform call of cell (0,0). Assumes nothing.
use mathlib.Core.Path.{◌≡◌, refl, ap}
use mathlib.Core.Bool.{Bool, true, false, cond}
use mathlib.Core.List.{List, [], ◌∷◌, ◌++◌}
use Prim.Native.Nat.{ℕ, zero, suc, ◌+◌, ◌*◌, ◌-◌, ◌≤◌, ◌<◌}
use native.Mathlib.Omega.{arith}
use lib.ListN.{length, get_or}
use borrow.Author.Tests.{ne_eqb}
use Rattle.lists.specs.Counted.{up_to, bit}
use Rattle.lists.proofs.Choice.{cond_same}
use Rattle.lists.proofs.Counted.{bit_most}
use Rattle.counts.specs.Counts.{orient_sent}
use Rattle.context.specs.Map.{cell, row_at, col_at, lines_of, length_of}
use Rattle.context.specs.Order.{by_three, around, rank_of}
use Rattle.context.proofs.Around.{around_ok, around_ctx}
use Rattle.context.proofs.Order.{rank_below}
use Rattle.literals.specs.Words.{word, raw_bits, raw_width_of}
use Rattle.literals.proofs.Words.{raw_word}
use Rattle.accept.specs.Palette.{Palette}
use Rattle.accept.proofs.Accepted.{Facts, lines_pos, flag, first_flag}
use Rattle.emit.specs.Map.{LinesInside, ranked_word, cell_word, line_word, row_context, sent_cells, line_words, orient_words, map_words}
use Rattle.emit.proofs.Lines.{sent_few}
use Rattle.listing.proofs.Inside.{inside, long}

pub raw_append : (us vs : List ℕ) → raw_width_of (us ++ vs) ≡ raw_width_of us + raw_width_of vs
unfolding raw_width_of
raw_append [] vs = omega arith
raw_append (u ∷ us) vs = omega (arith, raw_append us vs)

-- pieces of which none adds anything, and pieces of which only the first does
raw_none : (f : ℕ → List ℕ) (n : ℕ) → ((i : ℕ) → i < n → raw_width_of (f i) ≡ 0) → raw_width_of (up_to f n) ≡ 0
unfolding up_to raw_width_of
raw_none f zero none = refl
raw_none f (suc n) none =
    omega (arith, raw_append (up_to f n) (f n), raw_none f n (λ i h. none i (omega arith)), none n (omega arith))

raw_first : (f : ℕ → List ℕ) (n : ℕ) → 0 < n → ((i : ℕ) → 0 < i → i < n → raw_width_of (f i) ≡ 0)
    → raw_width_of (up_to f n) ≡ raw_width_of (f 0)
unfolding up_to
raw_first f zero some none = absurd (omega arith)
raw_first f (suc zero) some none = refl
raw_first f (suc (suc n)) some none =
    let before : raw_width_of (up_to f (suc n)) ≡ raw_width_of (f 0) =
    raw_first f (suc n) (omega arith) (λ i later h. none i later (omega arith)) in
    omega (arith, raw_append (up_to f (suc n)) (f (suc n)), before, none (suc n) (omega arith) (omega arith))

-- row and column of a place that is not the first
not_first : (t : Bool) (l a : ℕ) → 0 < l + a → 0 < row_at t l a + col_at t l a
not_first true l a h = omega arith
not_first false l a h = h

sends_first : (flag len : ℕ) → flag ≤ 1 → 1 ≤ len → 0 < sent_cells flag len
unfolding sent_cells
sends_first zero len f h = h
sends_first (suc zero) len f h = omega arith
sends_first (suc (suc flag)) len f h = absurd (omega arith)

module _ (map : List ℕ) (w n : ℕ) (t : Bool) (lines len : ℕ) (inside : LinesInside map w n t lines len) where
  -- a cell by rank adds nothing
  raw_ranked : (y x : ℕ) → 0 < y + x → x < w → y * w + x < length map → raw_bits (cell_word 5 by_three n map w y x) ≡ 0
  unfolding cell_word ranked_word cell
  raw_ranked y x after column place =
      let near = around by_three map w y x in
      let i = get_or map (y * w + x) 0 in
      let ok = around_ok map w y x n column (λ k h. inside.below k (omega arith)) in
      let low : rank_of near n i < n = rank_below near n ok i (inside.below (y * w + x) place) in
      let field : (n - 2) * 5 + near.ctx < 256 = omega (arith, around_ctx map w y x, inside.eight) in
      rw (ne_eqb (y + x) 0 (omega arith))
      (raw_word 5 ((n - 2) * 5 + near.ctx) (rank_of near n i) field (omega (arith, low, inside.eight)))

  raw_cell : (l a : ℕ) → l < lines → a < len → 0 < l + a → raw_bits (line_word n t map w l a) ≡ 0
  raw_cell l a g h after =
      raw_ranked (row_at t l a) (col_at t l a) (not_first t l a after) (inside.column l a g h) (inside.place l a g h)

  -- the uniform call of cell (0,0), first in the first line of either orientation
  abbrev uniform : ℕ
  uniform = word 2 n (get_or map 0 0)

  raw_uniform : raw_bits (line_word n t map w 0 0) ≡ raw_bits uniform
  unfolding cell_word cell
  raw_uniform =
      let front : 0 * w + 0 ≡ 0 = omega arith in
      rw (cond_same {A = ℕ} t 0) (ap (λ (k : ℕ). raw_bits (word 2 n (get_or map k 0))) front)

  module _ (flags : List ℕ) (small : (l : ℕ) → l < lines → get_or flags l 0 ≤ 2) (long : 1 ≤ len) where
    context_small : (l : ℕ) → l < lines → row_context flags l < 256
    unfolding row_context
    context_small zero g = omega arith
    context_small (suc l) g = omega (arith, small l (omega arith))

    raw_flag : (l : ℕ) → l < lines → raw_bits (word 4 (row_context flags l) (get_or flags l 0)) ≡ 0
    raw_flag l g = raw_word 4 (row_context flags l) (get_or flags l 0) (context_small l g) (omega (arith, small l g))

    -- the first line adds its first cell, the others nothing
    raw_line : (l : ℕ) → 0 < l → l < lines → raw_width_of (line_words n t flags map w len l) ≡ 0
    unfolding line_words raw_width_of
    raw_line l later g =
        let sent = sent_cells (get_or flags l 0) len in
        let cells : raw_width_of (up_to (λ a. line_word n t map w l a ∷ []) sent) ≡ 0 =
        raw_none (λ a. line_word n t map w l a ∷ []) sent
        (λ a h. omega (arith, raw_cell l a g (omega (arith, sent_few (get_or flags l 0) len long)) (omega arith))) in
        omega (arith, raw_flag l g, cells)

    raw_first_line : 0 < lines → get_or flags 0 0 ≤ 1 → raw_width_of (line_words n t flags map w len 0) ≡ raw_bits uniform
    unfolding line_words raw_width_of
    raw_first_line g first =
        let sent = sent_cells (get_or flags 0 0) len in
        let cells : raw_width_of (up_to (λ a. line_word n t map w 0 a ∷ []) sent) ≡ raw_bits (line_word n t map w 0 0) + 0 =
        raw_first (λ a. line_word n t map w 0 a ∷ []) sent (sends_first (get_or flags 0 0) len first long)
        (λ a later h. omega (arith, raw_cell 0 a g (omega (arith, sent_few (get_or flags 0 0) len long)) (omega arith))) in
        omega (arith, raw_flag 0 g, cells, raw_uniform)

    raw_lines : 0 < lines → get_or flags 0 0 ≤ 1 → raw_width_of (up_to (line_words n t flags map w len) lines) ≡ raw_bits uniform
    raw_lines g first =
        omega (arith, raw_first (line_words n t flags map w len) lines g raw_line, raw_first_line g first)

raw_orient : (w h : ℕ) (t : Bool) → raw_width_of (orient_words w h t) ≡ bit (orient_sent w h)
unfolding orient_words raw_width_of
raw_orient w h t = go (orient_sent w h)
  where
    go : (sent : Bool) → raw_width_of (cond sent (word 1 1 (bit t) ∷ []) []) ≡ bit sent
    go true = omega (arith, raw_word 1 1 (bit t) (omega arith) (omega (arith, bit_most t)))
    go false = refl

-- in the map of an accepted palette
pub raw_map : (w h bd : ℕ) (p : Palette) → Facts w h bd p
    → raw_width_of (map_words (length p.colors) p.transposed p.flags p.map w h)
    ≡ bit (orient_sent w h) + raw_bits (word 2 (length p.colors) (get_or p.map 0 0))
unfolding map_words
raw_map w h bd p f =
    let t = p.transposed in
    let n = length p.colors in
    let lines = lines_of t w h in
    let len = length_of t w h in
    omega (
      arith,
      raw_append (orient_words w h t) (up_to (line_words n t p.flags p.map w len) lines),
      raw_orient w h t,
      raw_lines p.map w n t lines len (inside w h bd p f) p.flags (flag w h bd p f) (long w h bd p f) (lines_pos w h bd p f)
          (first_flag w h bd p f),
    )
