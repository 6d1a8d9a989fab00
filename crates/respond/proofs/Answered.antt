-- The answer is the front block's: its number, or its list. Assumes nothing.
use Prim.Native.Nat.{ℕ}
use mathlib.Core.Path.{◌≡◌, refl, sym, ap, ◌∙◌}
use mathlib.Core.Bool.{Bool, true, false, cond, ◌||◌}
use mathlib.Core.List.{List}
use native.Mathlib.Omega.{arith}
use lib.Dec.{eqb}
use lib.ListN.{length, take, drop}
use lib.Seq.{take-append_seam}
use borrow.Author.Tests.{eqb-true, eqb-false, eq-eqb, ne_eqb}
use Rattle.lists.specs.Written.{front}
use Rattle.lists.proofs.Choice.{or_true}
use Rattle.printing.specs.Printing.{listed, refused}
use Rattle.accept.specs.Accepted.{refusal}
use Rattle.text.specs.declared.Header.{Header}
use Rattle.text.specs.Text.{header_at, places_of, text_number, cache_at, palette_at}
use Rattle.text.specs.Answer.{shown, answer}
use Rattle.blocks.specs.declared.Block.{Block}
use Rattle.blocks.specs.Block.{block_of, words_of}
use Rattle.blocks.proofs.Listed.{listed_number, listed_taken}
use Rattle.blocks.proofs.Read.{block_refused, block_listed, calls_told}
use Rattle.respond.specs.Number.{answer_number}

-- a text's number is 0 only where the block's is
zero_by : (b : Block) (long : ℕ) (t : Bool) → eqb b.taken 0 || eqb b.taken long ≡ t → answer_number b long ≡ 0 → b.number ≡ 0
unfolding answer_number
zero_by b long true e z = rw e at z
zero_by b long false e z = let no : ◌≡◌ {A = ℕ} 17 0 = rw e at z in absurd (omega (arith, no))

module _ (s : List ℕ) where
  abbrev number : ℕ
  number = answer_number (block_of s) (length s)

  -- a list for 0, else the refusal
  abbrev told : ℕ → List ℕ
  told k = cond (eqb k 0) (listed (words_of s)) (refused k)

  -- ---- a text in form

  module _ (z : text_number s 0 ≡ 0) where
    abbrev h : Header
    h = header_at s 0

    abbrev end : ℕ
    end = (places_of h 0).end

    abbrev fault : ℕ
    fault = refusal h.width h.height h.bd (length (cache_at s 0 h)) (palette_at s 0 h)

    ends_late : end ≡ 0 → ⊥
    unfolding places_of
    ends_late e = omega arith

    number_is : number ≡ cond (eqb end (length s)) fault 17
    unfolding answer_number
    number_is =
        let block = block_listed s h refl z in
        let cache = cache_at s 0 h in
        let p = palette_at s 0 h in
        rw (
          ← block,
          listed_taken end h.width h.height h.bd cache p,
          listed_number end h.width h.height h.bd cache p,
          ne_eqb end 0 ends_late,
        ) refl

    shown_is : shown h.width h.height h.bd (cache_at s 0 h) (palette_at s 0 h) ≡ told fault
    unfolding shown words_of
    shown_is = refl

    in_form_by : (t : Bool) → eqb end (length s) ≡ t
        → cond t (shown h.width h.height h.bd (cache_at s 0 h) (palette_at s 0 h)) (refused 17) ≡ told (cond t fault 17)
    in_form_by true e = shown_is
    in_form_by false e = refl

  -- ---- the answer

  answer_by : (t : Bool) → eqb (text_number s 0) 0 ≡ t → answer s ≡ told number
  unfolding answer answer_number
  answer_by true e =
      let z = eqb-true (text_number s 0) 0 e in
      rw (e, number_is z) (in_form_by z (eqb (end z) (length s)) refl)
  answer_by false e =
      let n = eqb-false (text_number s 0) 0 e in
      let block = block_refused s (header_at s 0) refl n in
      let is : number ≡ text_number s 0 = ap (λ (b : Block). answer_number b (length s)) (sym block) in
      rw (e, is, e) refl

  answer_is : answer s ≡ told number
  answer_is = answer_by (eqb (text_number s 0) 0) refl

  -- where nothing is left behind the block, the listing program says what the block report's line says
  pub answer_whole : (block_of s).taken ≡ length s → answer s ≡ told (block_of s).number
  unfolding answer_number
  answer_whole e = answer_is ∙ rw (eq-eqb (block_of s).taken (length s) e, or_true (eqb (block_of s).taken 0)) refl

  -- ---- from what `take_block` answered

  module _ (b : Block) (e : b ≡ block_of s) (k : ℕ) (is : k ≡ answer_number b (length s)) where
    k_is : k ≡ number
    k_is = is ∙ ap (λ (x : Block). answer_number x (length s)) e

    pub answer_refused : (k ≡ 0 → ⊥) → refused k ≡ answer s
    answer_refused n = rw (answer_is, ← k_is) (sym (simp (ne_eqb _ _ n)))

    accepted : k ≡ 0 → (block_of s).number ≡ 0
    accepted z = zero_by (block_of s) (length s) (eqb (block_of s).taken 0 || eqb (block_of s).taken (length s)) refl (sym k_is ∙ z)

    -- the words that were written, cut to their count
    pub answer_listed : (before after : List ℕ) → after ≡ cond (eqb b.number 0) (front (words_of s) before) before → k ≡ 0
        → listed (take b.calls after) ≡ answer s
    unfolding front
    answer_listed before after w z =
        let a = accepted z in
        let y : b.number ≡ 0 = ap (λ (x : Block). x.number) e ∙ a in
        let long : b.calls ≡ length (words_of s) = ap (λ (x : Block). x.calls) e ∙ calls_told s a in
        let put : after ≡ front (words_of s) before = w ∙ simp (eq-eqb _ _ y) in
        let cut : take b.calls after ≡ words_of s = rw (put, long) (take-append_seam (words_of s) (drop (length (words_of s)) before)) in
        rw (cut, answer_is, ← k_is) (sym (simp (eq-eqb _ _ z)))
