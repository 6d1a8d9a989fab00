-- The lines' words tell flags and cells. Assumes nothing.
use mathlib.Core.Path.{◌≡◌, refl, sym, ◌∙◌}
use mathlib.Core.Bool.{Bool, true, false, false≢true}
use mathlib.Core.List.{List, [], ◌∷◌}
use mathlib.Core.Logic.{◌⊎◌, inl, inr}
use Prim.Native.Nat.{ℕ, zero, suc, ◌*◌, ◌/◌, ◌%◌, ◌<◌}
use native.Mathlib.Nat.{eq-or-lt_of_le, mod-lt, div-add-mod', div-lt_iff_lt-mul}
use native.Mathlib.Omega.{arith}
use lib.ListN.{length, get_or}
use lib.Seq.{ext_get_or}
use borrow.Author.Tests.{eqb-true}
use Rattle.lists.specs.Counted.{up_to}
use Rattle.lists.proofs.Counted.{all_below_at}
use Rattle.context.specs.Map.{cell, row_at, col_at, lines_of, length_of, line_cell}
use Rattle.context.specs.Order.{by_three}
use Rattle.emit.specs.Map.{line_word, row_context, sent_cells, line_words}
use Rattle.accept.specs.Accepted.{line_ok}
use Rattle.listing.proofs.Splits.{Splits, nil, cons, weaken, loop}
use Rattle.literals.proofs.Words.{word_injective}
use Rattle.listing.proofs.Cells.{Agree, cell_tells}

-- what holds below n and at n holds below n + 1
pub one_more : (P : ℕ → Type 0) (n : ℕ) → ((j : ℕ) → j < n → P j) → P n → (j : ℕ) → j < suc n → P j
one_more P n f p j h =
    let go : (suc j ≡ suc n) ⊎ (suc j < suc n) → P j =
    elim [ inl e ↦ (let q : j ≡ n = omega arith in rw q p) | inr l ↦ f j (omega arith) ] in
    go (eq-or-lt_of_le h)

-- what acceptance says of the lines: each index is below n, and each line is as its flag says
pub record Fits (t : Bool) (w lines len n : ℕ) (fs m : List ℕ) : Type 0 where
  pub index : (l a : ℕ) → l < lines → a < len → line_cell t m w l a < n
  pub line : (l : ℕ) → l < lines → line_ok (get_or fs l 0) (line_cell t m w) len l ≡ true

-- two maps agree along the first a cells of line l; in the first l lines
abbrev pub Row : Bool → ℕ → List ℕ → List ℕ → ℕ → ℕ → Type 0
Row t w m m' l a = (j : ℕ) → j < a → line_cell t m w l j ≡ line_cell t m' w l j

abbrev pub Seen : Bool → ℕ → ℕ → List ℕ → List ℕ → ℕ → Type 0
Seen t w len m m' l = (k : ℕ) → k < l → Row t w m m' k len

pub agree : (t : Bool) (w len : ℕ) (m m' : List ℕ) (l a : ℕ) → a < len → Seen t w len m m' l → Row t w m m' l a
    → Agree w m m' (row_at t l a) (col_at t l a)
unfolding line_cell
agree false w len m m' l a h s r =
    record {
      left = λ k e. r k (omega arith);
      top = λ k e. s k (omega arith) a h;
      diag = λ k j e f. s k (omega arith) j (omega arith);
    }
agree true w len m m' l a h s r =
    record {
      left = λ k e. s k (omega arith) a h;
      top = λ k e. r k (omega arith);
      diag = λ k j e f. s j (omega arith) k (omega arith);
    }

module _ (t : Bool) (w lines len n : ℕ) (fs fs' m m' : List ℕ) (p : Fits t w lines len n fs m) (q : Fits t w lines len n fs' m') where
  abbrev word_at : List ℕ → ℕ → ℕ → ℕ
  word_at m l a = line_word n t m w l a

  one_cell : (l a : ℕ) → l < lines → a < len → Seen t w len m m' l → Row t w m m' l a → word_at m l a ≡ word_at m' l a
      → line_cell t m w l a ≡ line_cell t m' w l a
  unfolding line_cell
  one_cell l a g h s r e =
      cell_tells 5 by_three w m m' n (row_at t l a) (col_at t l a) (p.index l a g h) (q.index l a g h) (agree t w len m m' l a h s r) e

  cells : (f l : ℕ) → 0 < len → l < lines → line_ok f (line_cell t m w) len l ≡ true → line_ok f (line_cell t m' w) len l ≡ true
      → Seen t w len m m' l → Splits (up_to (λ a. word_at m l a ∷ []) (sent_cells f len)) (up_to (λ a. word_at m' l a ∷ []) (sent_cells f len))
      (Row t w m m' l len)
  unfolding up_to sent_cells line_ok
  cells zero l z g u v s =
      loop _ _ (Row t w m m' l) len (λ j h. absurd (omega arith))
      (λ a h r.
      cons (λ e. nil (one_more (λ j. line_cell t m w l j ≡ line_cell t m' w l j) a r (one_cell l a g h s r e))))
  cells (suc zero) l z g u v s =
      cons λ e.
      let c : line_cell t m w l 0 ≡ line_cell t m' w l 0 = one_cell l 0 g z s (λ j h. absurd (omega arith)) e in
      nil (λ j h. eqb-true _ _ (all_below_at _ len u j h) ∙ c ∙ sym (eqb-true _ _ (all_below_at _ len v j h)))
  cells (suc (suc zero)) zero z g u v s = absurd (false≢true u)
  cells (suc (suc zero)) (suc k) z g u v s =
      nil (λ j h. eqb-true _ _ (all_below_at _ len u j h) ∙ s k (omega arith) j h ∙ sym (eqb-true _ _ (all_below_at _ len v j h)))
  cells (suc (suc (suc f))) l z g u v s = absurd (false≢true u)

  -- what the first l lines tell
  record Told (l : ℕ) : Type 0 where
    flag : (k : ℕ) → k < l → get_or fs k 0 ≡ get_or fs' k 0
    seen : Seen t w len m m' l

  row_context_holds : (l : ℕ) → Told l → row_context fs l ≡ row_context fs' l
  unfolding row_context
  row_context_holds zero k = refl
  row_context_holds (suc l) k = k.flag l (omega arith)

  one_line : (l : ℕ) → 0 < len → l < lines → Told l
      → Splits (line_words n t fs m w len l) (line_words n t fs' m' w len l) (Told (suc l))
  unfolding line_words
  one_line l z g k =
      cons λ e.
      let f : get_or fs l 0 ≡ get_or fs' l 0 = word_injective 4 _ _ _ _ (row_context_holds l k) e in
      weaken (λ r. record { flag = one_more _ l k.flag f; seen = one_more _ l k.seen r })
      (rw f (cells (get_or fs' l 0) l z g (rw f at (p.line l g)) (q.line l g) k.seen))

  all_lines : 0 < len → Splits (up_to (line_words n t fs m w len) lines) (up_to (line_words n t fs' m' w len) lines) (Told lines)
  all_lines z =
      loop _ _ Told lines (record { flag = λ k h. absurd (omega arith); seen = λ k h. absurd (omega arith) })
      (λ l g k. one_line l z g k)

-- ---- from the lines to the lists

-- maps that agree at each cell are the same
pub maps_same : (w h : ℕ) (m m' : List ℕ) → 0 < w → length m ≡ w * h → length m' ≡ w * h
    → ((y x : ℕ) → y < h → x < w → cell m w y x ≡ cell m' w y x) → m ≡ m'
unfolding cell
maps_same w h m m' z e e' s =
    ext_get_or 0 m m' (e ∙ sym e') λ i g.
    let y : i / w < h = (div-lt_iff_lt-mul z).1 (omega arith) in
    rw (div-add-mod' i w) at (s (i / w) (i % w) y (mod-lt i z))

pub seen_at : (t : Bool) (w h : ℕ) (m m' : List ℕ) → Seen t w (length_of t w h) m m' (lines_of t w h)
    → (y x : ℕ) → y < h → x < w → cell m w y x ≡ cell m' w y x
unfolding line_cell
seen_at false w h m m' s y x g k = s y g x k
seen_at true w h m m' s y x g k = s x k y g

-- the lines of two maps of one orientation and number of colours
pub lines_splits : (w h n : ℕ) (t : Bool) (fs fs' m m' : List ℕ) → 0 < w → 0 < h → length m ≡ w * h → length m' ≡ w * h
    → length fs ≡ lines_of t w h → length fs' ≡ lines_of t w h
    → Fits t w (lines_of t w h) (length_of t w h) n fs m → Fits t w (lines_of t w h) (length_of t w h) n fs' m'
    → Splits (up_to (line_words n t fs m w (length_of t w h)) (lines_of t w h)) (up_to (line_words n t fs' m' w (length_of t w h)) (lines_of t w h))
    ((fs ≡ fs') × (m ≡ m'))
lines_splits w h n t fs fs' m m' z z' k k' l l' f f' =
    weaken
    (λ told. (
      ext_get_or 0 fs fs' (l ∙ sym l') (λ i g. told.flag i (omega arith)),
      maps_same w h m m' z k k' (seen_at t w h m m' told.seen),
    ))
    (all_lines t w (lines_of t w h) (length_of t w h) n fs fs' m m' f f' (long t))
  where
    long : (t : Bool) → 0 < length_of t w h
    long true = z'
    long false = z
