-- Reading in pieces changes no report: a palette has at most 33,972 bytes, and so many are before the program, or all that is
-- left. Assumes nothing.
use Prim.Native.Nat.{ℕ, zero, suc, ◌+◌, ◌-◌, ◌≤◌, ◌<◌}
use mathlib.Core.Path.{◌≡◌, refl, sym, ap, ◌∙◌}
use mathlib.Core.Bool.{Bool, true, false, cond}
use mathlib.Core.List.{List, [], ◌∷◌, ◌++◌, append_assoc, append-nil}
use mathlib.Core.Logic.{inl, inr, ⊎_elim}
use native.Mathlib.Nat.{zero-add, add-zero, add_assoc}
use native.Mathlib.Omega.{arith}
use lib.Dec.{eqb, leb}
use lib.ListN.{length, take, drop, length-append, take-append-drop, drop_of_length-le}
use lib.Seq.{drop-append-le, length-take-le}
use borrow.Author.Tests.{eqb-false, eq-eqb, ne_eqb, leb-true, leb-false}
use Rattle.lists.proofs.Choice.{either_way}
use Rattle.blocks.specs.declared.Block.{Block}
use Rattle.blocks.specs.Block.{refused_block, block_of}
use Rattle.blocks.proofs.Front.{block_wide, block_within}
use Rattle.reporting.specs.declared.Page.{Page}
use Rattle.reporting.specs.Report.{blocks_of, block_line, block_lines, total, page_of, last_line, report}
use Rattle.reporting.specs.Steps.{blank, with, next_block, taken_of, page_after, printed_of}
use Rattle.reporting.specs.Stream.{Enough, run, StepsReport, filling}

empty_wide : (u v : List ℕ) → 33972 ≤ length u → eqb (length u) 0 ≡ eqb (length (u ++ v)) 0
empty_wide u v wide =
    rw (ne_eqb (length u) 0 (λ e. omega arith), ne_eqb (length (u ++ v)) 0 (λ e. omega (arith, length-append u v))) refl

-- ---- a step over what is there is a step over all that is left

module _ (u v s : List ℕ) (whole : u ++ v ≡ s) (enough : Enough u v) (p : Page) where
  all : v ≡ [] → u ≡ s
  all e = sym (ap (λ (z : List ℕ). u ++ z) e ∙ append-nil u) ∙ whole

  block_same : block_of u ≡ block_of s
  block_same = ⊎_elim (λ w. rw (← whole) (block_wide u v w)) (λ e. ap block_of (all e)) enough

  empty_same : eqb (length u) 0 ≡ eqb (length s) 0
  empty_same = ⊎_elim (λ w. rw (← whole) (empty_wide u v w)) (λ e. ap (λ (z : List ℕ). eqb (length z) 0) (all e)) enough

  next_same : next_block p u ≡ next_block p s
  unfolding next_block
  next_same = rw block_same refl

  taken_same : taken_of p u ≡ taken_of p s
  unfolding taken_of
  taken_same = rw (empty_same, next_same) refl

  page_same : page_after p u ≡ page_after p s
  unfolding page_after
  page_same = rw (empty_same, next_same) refl

  printed_same : printed_of p u ≡ printed_of p s
  unfolding printed_of
  printed_same = rw (empty_same, next_same, taken_same, page_same) refl

-- ---- a block lies within what is there

next_within : (p : Page) (s : List ℕ) → (next_block p s).taken ≤ length s
unfolding next_block
next_within p s =
    let fits : Block → Type 0 = λ b. b.taken ≤ length s in
    either_way fits (eqb p.lines 9999) _ _ (omega arith) (block_within s)

pub block_fits : (p : Page) (s : List ℕ) (b : Block) → b ≡ next_block p s → b.taken ≤ length s
block_fits p s b e = omega (arith, ap (λ (x : Block). x.taken) e, next_within p s)

taken_within : (p : Page) (s : List ℕ) → taken_of p s ≤ length s
unfolding taken_of
taken_within p s =
    let within : ℕ → Type 0 = λ n. n ≤ length s in
    either_way within (eqb (length s) 0) _ _ (omega arith) (next_within p s)

-- ---- a step that takes something adds a line

lines_by : (p : Page) (s : List ℕ) (t : Bool) → eqb (length s) 0 ≡ t → (taken_of p s ≡ 0 → ⊥) → (page_after p s).lines ≡ p.lines + 1
unfolding taken_of page_after
lines_by p s true e n = absurd (n (simp e))
lines_by p s false e n = rw e refl

pub lines_after : (p : Page) (s : List ℕ) → (taken_of p s ≡ 0 → ⊥) → (page_after p s).lines ≡ p.lines + 1
lines_after p s = lines_by p s (eqb (length s) 0) refl

-- ---- from a page on: the lines and totals of the blocks that are left

sums : Page → List Block → Page
sums p bs =
    record {
      lines = p.lines + total (λ b. 1) bs;
      calls = p.calls + total (λ b. b.calls) bs;
      cells = p.cells + total (λ b. b.cells) bs;
      raw = p.raw + total (λ b. b.raw) bs;
    }

sums_nil : (p : Page) → sums p [] ≡ p
unfolding sums total
sums_nil p = rw (add-zero, add-zero, add-zero, add-zero) refl

sums_cons : (p : Page) (b : Block) (bs : List Block) → sums p (b ∷ bs) ≡ sums (with p b) bs
unfolding sums total
sums_cons p b bs = rw (add_assoc, add_assoc, add_assoc, add_assoc) refl

sums_blank : (bs : List Block) → sums blank bs ≡ page_of bs
unfolding sums page_of
sums_blank bs = rw (zero-add, zero-add, zero-add, zero-add) refl

rest : ℕ → List ℕ → Page → List ℕ
rest left s p = block_lines (p.lines + 1) (blocks_of left s) ++ last_line (sums p (blocks_of left s))

whole_report : (s : List ℕ) → rest 9999 s blank ≡ report s
unfolding rest report
whole_report s = ap (λ (p : Page). block_lines 1 (blocks_of 9999 s) ++ last_line p) (sums_blank (blocks_of 9999 s))

-- ---- the rest is a step and what is left after it

module _ (p : Page) where
  step_by : (e g : Bool) (b : Block) (bs : List Block) → eqb b.taken 0 ≡ g
      → block_lines (p.lines + 1) (cond e [] (b ∷ cond g [] bs)) ++ last_line (sums p (cond e [] (b ∷ cond g [] bs)))
      ≡ (cond e [] (block_line (p.lines + 1) b) ++ cond (eqb (cond e 0 b.taken) 0) (last_line (cond e p (with p b))) [])
      ++ cond (eqb (cond e 0 b.taken) 0) [] (block_lines (p.lines + 1 + 1) bs ++ last_line (sums (with p b) bs))
  unfolding block_lines
  step_by true g b bs i = ap last_line (sums_nil p) ∙ sym (append-nil (last_line p))
  step_by false true b bs i =
      let l = block_line (p.lines + 1) b in
      let one : sums p (b ∷ []) ≡ with p b = sums_cons p b [] ∙ sums_nil (with p b) in
      rw (i, one, append-nil l) (sym (append-nil (l ++ last_line (with p b))))
  step_by false false b bs i =
      let l = block_line (p.lines + 1) b in
      rw (i, sums_cons p b bs, append-nil l) (append_assoc l (block_lines (p.lines + 1 + 1) bs) (last_line (sums (with p b) bs)))

  -- what is taken, and the page, matter only where the reading goes on
  going : (n : ℕ) (f : ℕ → Page → List ℕ) (x : Page) (e : Bool)
      → cond (eqb (cond e 0 n) 0) [] (f n x) ≡ cond (eqb (cond e 0 n) 0) [] (f (cond e 0 n) (cond e p x))
  going n f x true = refl
  going n f x false = refl

  no_more : (e : Bool) (l : List ℕ) → cond (eqb (cond e 0 0) 0) [] l ≡ cond (eqb (cond e 0 0) 0) [] []
  no_more true l = refl
  no_more false l = refl

  rest_last : (s : List ℕ) → p.lines ≡ 9999 → rest 0 s p ≡ printed_of p s ++ cond (eqb (taken_of p s) 0) [] []
  unfolding rest blocks_of printed_of taken_of page_after next_block block_lines
  rest_last s e =
      let b = refused_block 19 0 in
      let t = eqb (length s) 0 in
      let printed = cond t [] (block_line (p.lines + 1) b) ++ cond (eqb (cond t 0 0) 0) (last_line (cond t p (with p b))) [] in
      rw (eq-eqb p.lines 9999 e) (step_by t true b [] refl ∙ ap (λ (l : List ℕ). printed ++ l) (no_more t _))

  rest_next : (left : ℕ) (s : List ℕ) → (p.lines ≡ 9999 → ⊥)
      → rest (suc left) s p ≡ printed_of p s ++ cond (eqb (taken_of p s) 0) [] (rest left (drop (taken_of p s) s) (page_after p s))
  unfolding rest blocks_of printed_of taken_of page_after next_block
  rest_next left s n =
      let b = block_of s in
      let e = eqb (length s) 0 in
      let f : ℕ → Page → List ℕ = λ m x. rest left (drop m s) x in
      let printed = cond e [] (block_line (p.lines + 1) b) ++ cond (eqb (cond e 0 b.taken) 0) (last_line (cond e p (with p b))) [] in
      rw (ne_eqb p.lines 9999 n)
      (step_by e (eqb b.taken 0) b (blocks_of left (drop b.taken s)) refl
      ∙ ap (λ (l : List ℕ). printed ++ l) (going b.taken f (with p b) e))

-- ---- reading in pieces changes nothing

module _ (reads : Page → List ℕ → List ℕ → ℕ)
    (enough : (p : Page) (u v : List ℕ) → Enough (u ++ take (reads p u v) v) (drop (reads p u v) v)) where
  module _ (p : Page) (u v : List ℕ) where
    abbrev held : List ℕ
    held = u ++ take (reads p u v) v

    abbrev unread : List ℕ
    unread = drop (reads p u v) v

    -- nothing is lost
    held_whole : held ++ unread ≡ u ++ v
    held_whole = append_assoc u (take (reads p u v) v) unread ∙ rw (take-append-drop (reads p u v) v) refl

  run_is : (left : ℕ) (p : Page) (u v : List ℕ) → left + p.lines ≡ 9999 → run reads (suc left) p u v ≡ rest left (u ++ v) p
  unfolding run
  run_is zero p u v e =
      let s = held p u v in
      let w = unread p u v in
      let h = held_whole p u v in
      let n = enough p u v in
      rw (printed_same s w (u ++ v) h n p, taken_same s w (u ++ v) h n p) (sym (rest_last p (u ++ v) (omega arith)))
  run_is (suc left) p u v e =
      let s = held p u v in
      let w = unread p u v in
      let h = held_whole p u v in
      let n = enough p u v in
      let m = taken_of p s in
      let q = page_after p s in
      let deeper : left + q.lines ≡ 9999 → run reads (suc left) q (drop m s) w ≡ rest left (drop m s ++ w) q = run_is left q (drop m s) w in
      let front : drop m s ++ w ≡ drop m (u ++ v) =
      sym (drop-append-le m s w (taken_within p s)) ∙ ap (λ (l : List ℕ). drop m l) h in
      let go : (t : Bool) → eqb m 0 ≡ t → cond t [] (run reads (suc left) q (drop m s) w) ≡ cond t [] (rest left (drop m (u ++ v)) q) =
      elim [
        | true ↦ λ i. refl
        | false ↦ λ i. deeper (omega (arith, e, lines_after p s (eqb-false m 0 i))) ∙ ap (λ (l : List ℕ). rest left l q) front
      ] in
      ap (λ (l : List ℕ). printed_of p s ++ l) (go (eqb m 0) refl)
      ∙ rw (printed_same s w (u ++ v) h n p, taken_same s w (u ++ v) h n p, page_same s w (u ++ v) h n p)
      (sym (rest_next p left (u ++ v) (λ z. omega arith)))

pub steps_report : StepsReport
steps_report reads enough s = run_is reads enough 9999 blank [] s refl ∙ whole_report s

-- ---- the program's own reads

module _ (room : ℕ) (wide : 33972 ≤ room) (u v : List ℕ) where
  more_by : leb 33972 (length u) ≡ false → (t : Bool) → leb (length v) (room - length u) ≡ t
      → Enough (u ++ take (room - length u) v) (drop (room - length u) v)
  more_by e true f = inr (drop_of_length-le v {i = room - length u} (leb-true (length v) (room - length u) f))
  more_by e false f =
      let l : length u < 33972 = leb-false 33972 (length u) e in
      let m : room - length u < length v = leb-false (length v) (room - length u) f in
      inl (omega (arith, length-append u (take (room - length u) v), length-take-le (room - length u) v (omega arith)))

  enough_by : (t : Bool) → leb 33972 (length u) ≡ t
      → Enough (u ++ take (cond t 0 (room - length u)) v) (drop (cond t 0 (room - length u)) v)
  enough_by true e = inl (omega (arith, leb-true 33972 (length u) e, length-append u (take 0 v)))
  enough_by false e = more_by e (leb (length v) (room - length u)) refl

  filling_enough : (p : Page) → Enough (u ++ take (filling room p u v) v) (drop (filling room p u v) v)
  unfolding filling
  filling_enough p = enough_by (leb 33972 (length u)) refl

pub filled_report : (room : ℕ) → 33972 ≤ room → (s : List ℕ) → run (filling room) 10000 blank [] s ≡ report s
filled_report room wide = steps_report (filling room) (λ p u v. filling_enough room wide u v p)
