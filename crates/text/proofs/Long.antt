-- Reading a bounded part changes no answer: a palette's text has at most 33,972 bytes, and a longer text is refused by its
-- header or by 17. A palette is read alike through a window on the text. Assumes nothing.
use Prim.Native.Nat.{ℕ, zero, suc, ◌+◌, ◌*◌, ◌≤◌, ◌<◌}
use mathlib.Core.Path.{◌≡◌, refl, sym, ap, ◌∙◌}
use mathlib.Core.Bool.{Bool, true, false, cond}
use mathlib.Core.List.{List, ◌++◌}
use native.Mathlib.Nat.{suc-mul, le_of_lt, zero-add}
use native.Mathlib.Omega.{arith}
use lib.Dec.{leb, eqb}
use lib.ListN.{length, get_or, take, get_or-append}
use lib.Seq.{take_all, get_or-take, length-take-le}
use borrow.Author.Tests.{leb-true, leb-false, eqb-true, ne_eqb}
use Rattle.fields.specs.declared.Field.{Field}
use Rattle.fields.specs.declared.Field.TheVariants.{Blank}
use Rattle.fields.specs.Fields.{column, columns, field_at, number_of, is_line, line_numbers, are_rows, row_numbers}
use Rattle.printing.specs.Printing.{refused}
use Rattle.text.specs.declared.Header.{Header}
use Rattle.text.specs.Text.{most, number_at, header_at, header_fault, lines_in, places_of, is_body, text_number, cache_at, palette_at}
use Rattle.text.specs.Answer.{answer}
use Rattle.text.proofs.Sound.{sound, end_small, in_form_small}
use Rattle.text.proofs.Within.{end_within}

-- a window u on a text s: from place k on, for `room` bytes
module _ (k room : ℕ) (s u : List ℕ) (same : (i : ℕ) → i < room → get_or u i 0 ≡ get_or s (k + i) 0) where
  columns_same : (at p n : ℕ) (f : Field) → p ≡ k + at → at + n ≤ room → columns u at n f ≡ columns s p n f
  unfolding columns
  columns_same at p zero f e h = refl
  columns_same at p (suc n) f e h =
      rw (same at (omega arith), ← e) (columns_same (at + 1) (p + 1) n (column f (get_or s p 0)) (omega arith) (omega arith))

  field_same : (at p : ℕ) → p ≡ k + at → at + 8 ≤ room → field_at u at ≡ field_at s p
  unfolding field_at
  field_same at p e h = columns_same at p 8 Blank e h

  line_same : (limit at p n : ℕ) → p ≡ k + at → at + (8 * n + 1) ≤ room → is_line limit u at n ≡ is_line limit s p n
  unfolding is_line
  line_same limit at p zero e h = rw (same at (omega arith), ← e) refl
  line_same limit at p (suc n) e h =
      rw (field_same at p e (omega arith), line_same limit (at + 8) (p + 8) n (omega arith) (omega arith)) refl

  numbers_same : (at p n : ℕ) → p ≡ k + at → at + 8 * n ≤ room → line_numbers u at n ≡ line_numbers s p n
  unfolding line_numbers
  numbers_same at p zero e h = refl
  numbers_same at p (suc n) e h =
      rw (field_same at p e (omega arith), numbers_same (at + 8) (p + 8) n (omega arith) (omega arith)) refl

  rows_same : (limit at p w h : ℕ) → p ≡ k + at → at + h * (8 * w + 1) ≤ room
      → (are_rows limit u at w h ≡ are_rows limit s p w h) × (row_numbers u at w h ≡ row_numbers s p w h)
  unfolding are_rows row_numbers
  rows_same limit at p w zero e l = (refl, refl)
  rows_same limit at p w (suc h) e l =
      let m : suc h * (8 * w + 1) ≡ h * (8 * w + 1) + (8 * w + 1) = suc-mul h (8 * w + 1) in
      let rest = rows_same limit (at + (8 * w + 1)) (p + (8 * w + 1)) w h (omega arith) (omega arith) in
      (rw (line_same limit at p w e (omega arith), rest.0) refl, rw (numbers_same at p w e (omega arith), rest.1) refl)

  module _ (at p : ℕ) (e : p ≡ k + at) where
    field_number_same : (j : ℕ) → at + (j + 8) ≤ room → number_at u (at + j) ≡ number_at s (p + j)
    field_number_same j h = ap number_of (field_same (at + j) (p + j) (omega arith) (omega arith))

    pub header_same : at + 49 ≤ room → header_at u at ≡ header_at s p
    unfolding header_at
    header_same h =
        rw (
          ap number_of (field_same at p e (omega arith)),
          field_number_same 8 (omega arith),
          field_number_same 16 (omega arith),
          field_number_same 24 (omega arith),
          field_number_same 32 (omega arith),
          field_number_same 40 (omega arith),
        ) refl

    module _ (h : Header) (l : (places_of h at).end ≤ room) where
      body_same : is_body u at h ≡ is_body s p h
      unfolding is_body places_of
      body_same =
          let a = places_of h at in
          let b = places_of h p in
          rw (
            line_same most a.colors b.colors h.n (omega arith) (omega arith),
            line_same 65535 a.cache b.cache h.cached (omega arith) (omega arith),
            line_same most a.flags b.flags (lines_in h) (omega arith) (omega arith),
            (rows_same most a.rows b.rows h.width h.height (omega arith) (omega arith)).0,
          ) refl

      pub cache_same : cache_at u at h ≡ cache_at s p h
      unfolding cache_at places_of
      cache_same = numbers_same (places_of h at).cache (places_of h p).cache h.cached (omega arith) (omega arith)

      pub palette_same : palette_at u at h ≡ palette_at s p h
      unfolding palette_at places_of
      palette_same =
          let a = places_of h at in
          let b = places_of h p in
          rw (
            numbers_same a.colors b.colors h.n (omega arith) (omega arith),
            numbers_same a.flags b.flags (lines_in h) (omega arith) (omega arith),
            (rows_same most a.rows b.rows h.width h.height (omega arith) (omega arith)).1,
          ) refl

    -- the window holds the header, and the body of a header without a fault
    module _ (head : at + 49 ≤ room) (body : header_fault (header_at s p) ≡ 0 → (places_of (header_at s p) at).end ≤ room) where
      number_by : (t : Bool) → eqb (header_fault (header_at s p)) 0 ≡ t → text_number u at ≡ text_number s p
      unfolding text_number
      number_by true f =
          rw (
            line_same most at p 6 e (omega arith),
            field_number_same 32 (omega arith),
            header_same head,
            body_same (header_at s p) (body (eqb-true _ _ f)),
          ) refl
      number_by false f =
          rw (line_same most at p 6 e (omega arith), field_number_same 32 (omega arith), header_same head, f) refl

      number_within : text_number u at ≡ text_number s p
      number_within = number_by (eqb (header_fault (header_at s p)) 0) refl

    -- it holds as much as a palette can take
    module _ (wide : at + 33972 ≤ room) where
      held : header_fault (header_at s p) ≡ 0 → (places_of (header_at s p) at).end ≤ room
      held f = omega (arith, end_small (header_at s p) at (sound (header_at s p) f))

      pub number_same : text_number u at ≡ text_number s p
      number_same = number_within (omega arith) held

-- ---- a palette in form is read alike whatever follows it

module _ (u v : List ℕ) (z : text_number u 0 ≡ 0) where
  at_front : (i : ℕ) → i < length u → get_or u i 0 ≡ get_or (u ++ v) (0 + i) 0
  at_front i h = rw zero-add (sym (get_or-append u v 0 i h))

  ends : (places_of (header_at u 0) 0).end ≤ length u
  ends = end_within u 0 z

  head_inside : 0 + 49 ≤ length u
  unfolding places_of
  head_inside = omega (arith, ends)

  pub same_header : header_at u 0 ≡ header_at (u ++ v) 0
  same_header = header_same 0 (length u) (u ++ v) u at_front 0 0 refl head_inside

  pub number_front : text_number u 0 ≡ text_number (u ++ v) 0
  number_front =
      number_within 0 (length u) (u ++ v) u at_front 0 0 refl head_inside (λ f. rw (← same_header) ends)

  pub cache_front : cache_at u 0 (header_at u 0) ≡ cache_at (u ++ v) 0 (header_at u 0)
  cache_front = cache_same 0 (length u) (u ++ v) u at_front 0 0 refl (header_at u 0) ends

  pub palette_front : palette_at u 0 (header_at u 0) ≡ palette_at (u ++ v) 0 (header_at u 0)
  palette_front = palette_same 0 (length u) (u ++ v) u at_front 0 0 refl (header_at u 0) ends

-- ---- the answer

module _ (s : List ℕ) (long : 33972 < length s) where
  long_by : (t : Bool) → eqb (text_number s 0) 0 ≡ t → answer s ≡ refused (cond t 17 (text_number s 0))
  unfolding answer
  long_by true e =
      let l = end_small (header_at s 0) 0 (in_form_small s 0 (header_at s 0) refl (eqb-true _ _ e)) in
      let n : eqb (places_of (header_at s 0) 0).end (length s) ≡ false = ne_eqb (places_of (header_at s 0) 0).end (length s) (λ z. omega (arith, l)) in
      rw (e, n) refl
  long_by false e = rw e refl

  long_answer : answer s ≡ refused (cond (eqb (text_number s 0) 0) 17 (text_number s 0))
  long_answer = long_by (eqb (text_number s 0) 0) refl

module _ (room : ℕ) (s : List ℕ) (wide : 33972 < room) where
  answer_by : (t : Bool) → leb (length s) room ≡ t → answer (take room s) ≡ answer s
  answer_by true e = rw (take_all room s (leb-true (length s) room e)) refl
  answer_by false e =
      let k : room < length s = leb-false (length s) room e in
      let n : length (take room s) ≡ room = length-take-le room s (le_of_lt k) in
      let t : text_number (take room s) 0 ≡ text_number s 0 =
      number_same 0 room s (take room s) (λ i h. get_or-take room s i 0 h ∙ rw zero-add refl) 0 0 refl (omega arith) in
      long_answer (take room s) (omega arith) ∙ rw t refl ∙ sym (long_answer s (omega arith))

  -- the program may read as much as it has room for
  pub answer_cut : answer (take room s) ≡ answer s
  answer_cut = answer_by (leb (length s) room) refl
