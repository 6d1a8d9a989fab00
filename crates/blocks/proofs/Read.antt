-- From what was read into the lent slices to the block at the front of the text. Assumes nothing.
use Prim.Native.Nat.{ℕ, ◌*◌, ◌≤◌}
use mathlib.Core.Path.{◌≡◌, refl, sym, ap, ◌∙◌, subst}
use mathlib.Core.Bool.{Bool, true, false, cond, ◌&&◌}
use mathlib.Core.List.{List}
use native.Mathlib.Omega.{arith}
use lib.Dec.{eqb}
use lib.ListN.{length, take}
use borrow.Author.Tests.{eqb-true, eqb-false, eq-eqb, ne_eqb, le-leb}
use Rattle.lists.specs.Written.{written, front}
use Rattle.lists.proofs.Written.{written_take}
use Rattle.lists.proofs.Choice.{and_l, and_r}
use Rattle.fields.specs.Fields.{is_line, are_rows, line_numbers, row_numbers, cut}
use Rattle.fields.proofs.Laws.{length_cut, length_line, length_rows}
use Rattle.accept.specs.Palette.{Palette, first_colors, palette_of}
use Rattle.accept.specs.Accepted.{refusal}
use Rattle.listing.specs.Listing.{call_list}
use Rattle.text.specs.declared.Header.{Header}
use Rattle.text.specs.Text.{most, header_at, Small, lines_in, places_of, is_body, text_number, cache_at, palette_at}
use Rattle.text.proofs.Sound.{lines_small, cells_small, in_form}
use Rattle.text.proofs.Cut.{line_kept}
use Rattle.text.proofs.CutPalette.{cut_palette, accepted_cut}
use Rattle.blocks.specs.declared.Block.{Block}
use Rattle.blocks.specs.Block.{refused_block, listed_block, block_of, words_of}
use Rattle.blocks.proofs.Listed.{listed_number, listed_calls, listed_cut}

-- the front of a slice into which a list was written
taken : (l vs : List ℕ) (n : ℕ) → length vs ≡ n → n ≤ length l → take n (written l 0 vs) ≡ vs
taken l vs n e h =
    let k : length vs ≤ length l = omega arith in
    rw (← e) (written_take l vs k)

module _ (s : List ℕ) (h : Header) (e : h ≡ header_at s 0) where
  -- a text that cannot be read, or a refused header
  pub block_refused : (text_number s 0 ≡ 0 → ⊥) → refused_block (text_number s 0) 0 ≡ block_of s
  unfolding block_of
  block_refused n = sym (simp (ne_eqb _ _ n))

  module _ (z : text_number s 0 ≡ 0) where
    abbrev p : Palette
    p = palette_at s 0 h

    abbrev cache : List ℕ
    cache = cache_at s 0 h

    -- the cache line's form keeps its entries below its room's limit
    cache_kept : cut 65535 cache ≡ cache
    unfolding cache_at is_body
    cache_kept =
        let b : is_body s 0 h ≡ true = subst (λ (x : Header). is_body s 0 x ≡ true) (sym e) (in_form s 0 z).1 in
        let q = places_of h 0 in
        let c = is_line 65535 s q.cache h.cached in
        let f = is_line most s q.flags (lines_in h) in
        let k = is_line most s q.colors h.n in
        line_kept 65535 s q.cache h.cached
        (and_r k c (and_l (k && c) f (and_l (k && c && f) (are_rows most s q.rows h.width h.height) b)))

    pub block_listed : listed_block (places_of h 0).end h.width h.height h.bd cache p ≡ block_of s
    unfolding block_of
    block_listed = rw (← e) (sym (simp (eq-eqb _ _ z)))

    -- an accepted palette was not cut, so that its list is the text's
    words_by : (x : ℕ) → x ≡ (block_of s).number → (before : List ℕ) (t : Bool) → eqb x 0 ≡ t
        → cond t (front (call_list h.width h.height h.bd cache (cut_palette p)) before) before
        ≡ cond t (front (words_of s) before) before
    unfolding words_of
    words_by x q before true i =
        let listed = listed_number (places_of h 0).end h.width h.height h.bd cache p in
        let accepted : refusal h.width h.height h.bd (length cache) p ≡ 0 =
        sym listed ∙ ap (λ (b : Block). b.number) block_listed ∙ sym q ∙ eqb-true x 0 i in
        rw (accepted_cut h.width h.height h.bd (length cache) p accepted, e) refl
    words_by x q before false i = refl

    -- ---- the four slices, as reading leaves them

    module _ (small : Small h) (k c f m k₀ c₀ f₀ m₀ : List ℕ)
        (room : (8 ≤ length k₀) × (64 ≤ length c₀) × (64 ≤ length f₀) × (4096 ≤ length m₀))
        (pk : k ≡ written k₀ 0 (cut 65535 p.colors))
        (pc : c ≡ written c₀ 0 (cut 65535 cache))
        (pf : f ≡ written f₀ 0 (cut 255 p.flags))
        (pm : m ≡ written m₀ 0 (cut 255 p.map)) where
      abbrev read : Palette
      read = palette_of k h.n h.transposed (take (h.height * h.width) m) (take (lines_in h) f)

      cache_read : take h.cached c ≡ cache
      unfolding cache_at
      cache_read =
          let vs = line_numbers s (places_of h 0).cache h.cached in
          rw pc
          (taken c₀ (cut 65535 vs) h.cached (length_cut 65535 vs ∙ length_line s (places_of h 0).cache h.cached)
          (omega (arith, small.cached, room.1)))
          ∙ cache_kept

      palette_read : read ≡ cut_palette p
      unfolding palette_at cut_palette first_colors
      palette_read =
          let q = places_of h 0 in
          let us = line_numbers s q.colors h.n in
          let fs = line_numbers s q.flags (lines_in h) in
          let ms = row_numbers s q.rows h.width h.height in
          let qk : take h.n k ≡ cut 65535 us =
          rw pk
          (taken k₀ (cut 65535 us) h.n (length_cut 65535 us ∙ length_line s q.colors h.n) (omega (arith, small.colors, room.0))) in
          let qf : take (lines_in h) f ≡ cut 255 fs =
          rw pf
          (taken f₀ (cut 255 fs) (lines_in h) (length_cut 255 fs ∙ length_line s q.flags (lines_in h))
          (omega (arith, lines_small h small, room.2))) in
          let qm : take (h.height * h.width) m ≡ cut 255 ms =
          rw pm
          (taken m₀ (cut 255 ms) (h.height * h.width) (length_cut 255 ms ∙ length_rows s q.rows h.width h.height)
          (omega (arith, cells_small h small, room.3))) in
          rw (le-leb h.n 8 small.colors, qk, qf, qm) refl

      -- the block of what was read is the text's, and so are its words
      pub block_read : (end : ℕ) → end ≡ (places_of h 0).end → (b : Block)
          → b ≡ listed_block end h.width h.height h.bd (take h.cached c) read → (before after : List ℕ)
          → after ≡ cond (eqb b.number 0) (front (call_list h.width h.height h.bd (take h.cached c) read) before) before
          → (b ≡ block_of s) × (after ≡ cond (eqb b.number 0) (front (words_of s) before) before)
      block_read end ee b eb before after ew =
          let listed : listed_block end h.width h.height h.bd (take h.cached c) read ≡ block_of s =
          rw (cache_read, palette_read, ee)
          (listed_cut (places_of h 0).end h.width h.height h.bd cache p ∙ block_listed) in
          let is : b ≡ block_of s = eb ∙ listed in
          (is, ew ∙ rw (cache_read, palette_read) (words_by b.number (ap (λ (x : Block). x.number) is) before (eqb b.number 0) refl))

-- ---- a block that is not refused counts its words

module _ (s : List ℕ) where
  abbrev h : Header
  h = header_at s 0

  calls_by : (t : Bool) → eqb (text_number s 0) 0 ≡ t → (block_of s).number ≡ 0 → (block_of s).calls ≡ length (words_of s)
  unfolding words_of
  calls_by true e z =
      let listed = block_listed s h refl (eqb-true _ _ e) in
      let accepted = sym (listed_number (places_of h 0).end h.width h.height h.bd (cache_at s 0 h) (palette_at s 0 h))
      ∙ ap (λ (b : Block). b.number) listed ∙ z in
      ap (λ (b : Block). b.calls) (sym listed)
      ∙ listed_calls (places_of h 0).end h.width h.height h.bd (cache_at s 0 h) (palette_at s 0 h) accepted
  calls_by false e z =
      let n = eqb-false _ _ e in
      absurd (n (ap (λ (b : Block). b.number) (block_refused s h refl n) ∙ z))

  pub calls_told : (block_of s).number ≡ 0 → (block_of s).calls ≡ length (words_of s)
  calls_told = calls_by (eqb (text_number s 0) 0) refl
