-- The lines' words are read back as the flags and the map. Assumes nothing.
use mathlib.Core.Path.{◌≡◌, refl, sym, ◌∙◌}
use mathlib.Core.Bool.{Bool, true, false, cond, false≢true}
use mathlib.Core.List.{List, [], ◌∷◌}
use Prim.Native.Nat.{ℕ, zero, suc, ◌+◌, ◌*◌, ◌-◌, ◌≤◌, ◌<◌}
use native.Mathlib.Nat.{add_comm}
use native.Mathlib.Omega.{arith}
use lib.Dec.{eqb}
use lib.ListN.{length, get_or, set, length-set, length-replicate}
use lib.Seq.{get_or-set_same, get_or-set_other}
use borrow.Author.Tests.{eqb-true, ne_eqb}
use Rattle.lists.specs.Counted.{up_to}
use Rattle.lists.proofs.Counted.{all_below_at}
use Rattle.context.specs.Map.{cell, row_at, col_at, line_cell}
use Rattle.context.specs.Order.{Around, by_three, around, order_of, rank_of}
use Rattle.context.proofs.Order.{FirstsOk, rank_index, rank_below}
use Rattle.context.proofs.Around.{around_ok}
use Rattle.scan.specs.declared.Scan.{Scan}
use Rattle.scan.specs.Scan.{scan_of, place_at, cell_in, fill, around_in, Sound}
use Rattle.scan.proofs.Scans.{line_cell_holds, lines_are}
use Rattle.literals.specs.Words.{word}
use Rattle.accept.specs.Accepted.{line_ok}
use Rattle.accept.proofs.Lines.{in_block}
use Rattle.emit.specs.Map.{ranked_word, cell_word, line_word, row_context, sent_cells, line_words}
use Rattle.listing.proofs.Cells.{around_agree}
use Rattle.listing.proofs.Lines.{Fits, Row, Seen, agree, one_more}
use Rattle.reader.specs.Reader.{◌>>=◌, ret, due}
use Rattle.reader.proofs.Takes.{Takes, done, one, then, last, loop}
use Rattle.read_map.specs.Map.{read_ranked, read_index, read_cell, read_cells, Lines, read_line, read_lines}
use Rattle.reading.specs.Reading.{no_lines}

-- the index of a cell in the context that it has in m
index_takes : (n w y x : ℕ) (o : Around) (m : List ℕ) → o ≡ around by_three m w y x → cell m w y x < n → FirstsOk (around by_three m w y x) n
    → Takes (cond (eqb (y + x) 0) (due 2 n n) (read_ranked n o)) (cell_word 5 by_three n m w y x ∷ []) (λ i. i ≡ cell m w y x)
unfolding read_ranked cell_word ranked_word
index_takes n w y x o m q c ok = rw q (go (eqb (y + x) 0))
  where
    A : Around
    A = around by_three m w y x

    i : ℕ
    i = cell m w y x

    go : (b : Bool) → Takes (cond b (due 2 n n) (due 5 ((n - 2) * 5 + A.ctx) n >>= λ r. ret (get_or (order_of A n) r 0)))
        (cond b (word 2 n i) (word 5 ((n - 2) * 5 + A.ctx) (rank_of A n i)) ∷ []) (λ s. s ≡ i)
    go true = one 2 n n i c
    go false =
        last (λ s. s ≡ i) (λ r. get_or (order_of A n) r 0)
        (one 5 ((n - 2) * 5 + A.ctx) n (rank_of A n i) (rank_below A n ok i c))
        (λ r e. rw e (rank_index A n i c))

-- line and place, or row and column
sum_same : (t : Bool) (l a : ℕ) → l + a ≡ row_at t l a + col_at t l a
sum_same true l a = add_comm l a
sum_same false l a = refl

around_same : (w h : ℕ) (t : Bool) (x : List ℕ) (l a : ℕ) → around_in x (scan_of w h t) l a ≡ around by_three x w (row_at t l a) (col_at t l a)
around_same w h true x l a = refl
around_same w h false x l a = refl

module _ (t : Bool) (w h n : ℕ) (fs m : List ℕ) (sound : Sound (scan_of w h t) (w * h))
    (p : Fits t w (scan_of w h t).lines (scan_of w h t).len n fs m) (below : (i : ℕ) → i < w * h → get_or m i 0 < n) where
  abbrev s : Scan
  s = scan_of w h t

  cell_in_is : (x : List ℕ) (l a : ℕ) → line_cell t x w l a ≡ cell_in x s l a
  unfolding line_cell cell
  cell_in_is x l a = sym (line_cell_holds x w h t l a)

  -- the map read so far agrees with m in the first l lines and a cells of line l
  pub record Good (l a : ℕ) (x : List ℕ) : Type 0 where
    pub size : length x ≡ w * h
    pub seen : Seen t w s.len x m l
    pub row : Row t w x m l a

  put_other : (l a v k b : ℕ) (x : List ℕ) → l < s.lines → a < s.len → k < s.lines → b < s.len → (k ≡ l → b ≡ a → ⊥)
      → line_cell t (set x (place_at s l a) v) w k b ≡ line_cell t x w k b
  put_other l a v k b x g i f j differ =
      cell_in_is (set x (place_at s l a) v) k b
      ∙ get_or-set_other x (place_at s l a) (place_at s k b) v 0 (λ e. let same = sound.apart k b l a f g j i e in differ same.0 same.1)
      ∙ sym (cell_in_is x k b)

  good_put : (l a v : ℕ) (x : List ℕ) → l < s.lines → a < s.len → Good l a x → v ≡ line_cell t m w l a
      → Good l (suc a) (set x (place_at s l a) v)
  good_put l a v x g k o e =
      let put : line_cell t (set x (place_at s l a) v) w l a ≡ v =
      cell_in_is (set x (place_at s l a) v) l a ∙ get_or-set_same x (place_at s l a) v 0 (omega (arith, sound.inside l a g k, o.size)) in
      record {
        size = length-set x (place_at s l a) v ∙ o.size;
        seen = λ i u j c. put_other l a v i j x g k (omega arith) c (λ e f. omega arith) ∙ o.seen i u j c;
        row = one_more (λ j. line_cell t (set x (place_at s l a) v) w l j ≡ line_cell t m w l j) a
            (λ j c. put_other l a v l j x g k g (omega arith) (λ e f. omega arith) ∙ o.row j c) (put ∙ e);
      }

  good_fill : (l : ℕ) (f : ℕ → ℕ) (x : List ℕ) → l < s.lines → Good l 0 x → (k : ℕ) → k ≤ s.len
      → ((a : ℕ) → a < s.len → f a ≡ line_cell t m w l a) → Good l k (fill s l f x k)
  unfolding fill
  good_fill l f x g o zero k e = o
  good_fill l f x g o (suc a) k e = good_put l a (f a) (fill s l f x a) g k (good_fill l f x g o a (omega arith) e) (e a k)

  index_reads : (l a : ℕ) (x : List ℕ) → l < s.lines → a < s.len → Good l a x
      → Takes (read_index n s l a x) (line_word n t m w l a ∷ []) (λ i. i ≡ line_cell t m w l a)
  unfolding line_cell read_index
  index_reads l a x g k o =
      let y = row_at t l a in
      let z = col_at t l a in
      let b = in_block t w h l a (rw (lines_are w h t).0 at g) (rw (lines_are w h t).1 at k) in
      let near : around_in x s l a ≡ around by_three m w y z =
      around_same w h t x l a ∙ around_agree 5 by_three w x m y z (agree t w s.len x m l a k o.seen o.row) in
      rw (sum_same t l a)
      (index_takes n w y z (around_in x s l a) m near (p.index l a g k) (around_ok m w y z n b.column (λ i c. below i (omega (arith, b.place)))))

  cell_reads : (l a : ℕ) (x : List ℕ) → l < s.lines → a < s.len → Good l a x
      → Takes (read_cell n s l a x) (line_word n t m w l a ∷ []) (Good l (suc a))
  unfolding read_cell
  cell_reads l a x g k o = last (Good l (suc a)) (λ i. set x (place_at s l a) i) (index_reads l a x g k o) (λ i e. good_put l a i x g k o e)

  cells_read : (f l : ℕ) (x : List ℕ) → l < s.lines → line_ok f (line_cell t m w) s.len l ≡ true → Good l 0 x
      → Takes (read_cells f n s l x) (up_to (λ a. line_word n t m w l a ∷ []) (sent_cells f s.len)) (Good l s.len)
  unfolding read_cells up_to sent_cells line_ok
  cells_read zero l x g u o = loop (read_cell n s l) _ (Good l) s.len x o (λ a k x o. cell_reads l a x g k o)
  cells_read (suc zero) l x g u o =
      last (Good l s.len) _ (index_reads l 0 x g sound.some o)
      (λ i e. good_fill l (λ a. i) x g o s.len (omega arith)
      (λ a k. e ∙ sym (eqb-true _ _ (all_below_at _ s.len u a k))))
  cells_read (suc (suc zero)) zero x g u o = absurd (false≢true u)
  cells_read (suc (suc zero)) (suc i) x g u o =
      let one_less : suc i - 1 ≡ i = omega arith in
      done _
      (good_fill (suc i) (λ a. cell_in x s (suc i - 1) a) x g o s.len (omega arith)
      (λ a k. rw one_less (sym (cell_in_is x i a) ∙ o.seen i (omega arith) a k ∙ sym (eqb-true _ _ (all_below_at _ s.len u a k)))))
  cells_read (suc (suc (suc f))) l x g u o = absurd (false≢true u)

  -- the lines read so far
  pub record Upto (l : ℕ) (r : Lines) : Type 0 where
    pub good : Good l 0 r.map
    pub count : length r.flags ≡ s.lines
    pub flag : (k : ℕ) → k < l → get_or r.flags k 0 ≡ get_or fs k 0

  context_read : (l : ℕ) (r : Lines) → Upto l r → row_context r.flags l ≡ row_context fs l
  unfolding row_context
  context_read zero r k = refl
  context_read (suc l) r k = k.flag l (omega arith)

  flag_below : (f l : ℕ) → line_ok f (line_cell t m w) s.len l ≡ true → f < cond (eqb l 0) 2 3
  unfolding line_ok
  flag_below zero l u = let go : (b : Bool) → 0 < cond b 2 3 = elim [ true ↦ omega arith | false ↦ omega arith ] in go (eqb l 0)
  flag_below (suc zero) l u = let go : (b : Bool) → 1 < cond b 2 3 = elim [ true ↦ omega arith | false ↦ omega arith ] in go (eqb l 0)
  flag_below (suc (suc zero)) zero u = absurd (false≢true u)
  flag_below (suc (suc zero)) (suc l) u = rw (ne_eqb (suc l) 0 (λ e. omega arith)) (omega arith)
  flag_below (suc (suc (suc f))) l u = absurd (false≢true u)

  line_reads : (l : ℕ) (r : Lines) → l < s.lines → Upto l r → Takes (read_line n s l r) (line_words n t fs m w s.len l) (Upto (suc l))
  unfolding read_line line_words
  line_reads l r g k =
      let v = get_or fs l 0 in
      let cells : List ℕ = up_to (λ a. line_word n t m w l a ∷ []) (sent_cells v s.len) in
      rw (context_read l r k)
      (then (one 4 (row_context fs l) (cond (eqb l 0) 2 3) v (flag_below v l (p.line l g)))
      (λ f q.
      let read : Takes (read_cells f n s l r.map) cells (Good l s.len) = rw q (cells_read v l r.map g (p.line l g) k.good) in
      last (Upto (suc l)) (λ x. record { flags = set r.flags l f; map = x }) read
      (λ x o. record {
        good = record { size = o.size; seen = one_more (λ i. Row t w x m i s.len) l o.seen o.row; row = λ j c. absurd (omega arith) };
        count = length-set r.flags l f ∙ k.count;
        flag = one_more (λ i. get_or (set r.flags l f) i 0 ≡ get_or fs i 0) l
            (λ i c. get_or-set_other r.flags l i f 0 (λ e. omega arith) ∙ k.flag i c)
            (get_or-set_same r.flags l f 0 (omega (arith, k.count)) ∙ q);
      })))

  pub lines_read : Takes (read_lines n s (no_lines w h t)) (up_to (line_words n t fs m w s.len) s.lines) (Upto s.lines)
  unfolding read_lines
  lines_read =
      loop (read_line n s) (line_words n t fs m w s.len) Upto s.lines (no_lines w h t)
      (record {
        good = record { size = length-replicate (w * h) 0; seen = λ k g. absurd (omega arith); row = λ j g. absurd (omega arith) };
        count = length-replicate s.lines 0;
        flag = λ k g. absurd (omega arith);
      })
      (λ l g r k. line_reads l r g k)
