-- A block by a part of the text: it is the same whatever follows where its end is known, or where as much is there as a palette can
-- take; and it lies within the text. Assumes nothing.
use Prim.Native.Nat.{ℕ, ◌+◌, ◌≤◌, ◌<◌}
use mathlib.Core.Path.{◌≡◌, refl, sym, ap}
use mathlib.Core.Bool.{Bool, true, false, cond}
use mathlib.Core.List.{List, ◌++◌}
use native.Mathlib.Nat.{zero-add}
use native.Mathlib.Omega.{arith}
use lib.Dec.{eqb}
use lib.ListN.{length, get_or, get_or-append}
use borrow.Author.Tests.{eqb-true, eqb-false}
use Rattle.text.specs.Text.{header_at, text_number, places_of, cache_at, palette_at}
use Rattle.text.proofs.Sound.{in_form_small, end_small}
use Rattle.text.proofs.Within.{end_within}
use Rattle.text.proofs.Long.{header_same, number_same, cache_same, palette_same, same_header, number_front, cache_front, palette_front}
use Rattle.blocks.specs.declared.Block.{Block}
use Rattle.blocks.specs.Block.{refused_block, listed_block, block_of}
use Rattle.blocks.proofs.Listed.{listed_taken}
use Rattle.blocks.proofs.Read.{block_refused}

-- ---- a text whose block's end is known

module _ (u : List ℕ) (known : (block_of u).taken ≡ 0 → ⊥) where
  in_form_by : (t : Bool) → eqb (text_number u 0) 0 ≡ t → text_number u 0 ≡ 0
  in_form_by true e = eqb-true (text_number u 0) 0 e
  in_form_by false e =
      let n = eqb-false (text_number u 0) 0 e in
      absurd (known (ap (λ (b : Block). b.taken) (sym (block_refused u (header_at u 0) refl n))))

  in_form : text_number u 0 ≡ 0
  in_form = in_form_by (eqb (text_number u 0) 0) refl

  pub block_front : (v : List ℕ) → block_of (u ++ v) ≡ block_of u
  unfolding block_of
  block_front v =
      rw (← number_front u v in_form, ← same_header u v in_form, ← cache_front u v in_form, ← palette_front u v in_form) refl

-- ---- a text that shows as much as a palette can take

module _ (u v : List ℕ) (wide : 33972 ≤ length u) where
  same : (i : ℕ) → i < 33972 → get_or u i 0 ≡ get_or (u ++ v) (0 + i) 0
  same i h = rw zero-add (sym (get_or-append u v 0 i (omega arith)))

  number_wide : text_number u 0 ≡ text_number (u ++ v) 0
  number_wide = number_same 0 33972 (u ++ v) u same 0 0 refl (omega arith)

  wide_by : (t : Bool) → eqb (text_number (u ++ v) 0) 0 ≡ t → block_of u ≡ block_of (u ++ v)
  unfolding block_of
  wide_by true e =
      let s = u ++ v in
      let h = header_at s 0 in
      let l : (places_of h 0).end ≤ 33972 = omega (arith, end_small h 0 (in_form_small s 0 h refl (eqb-true _ _ e))) in
      rw (
        number_wide,
        header_same 0 33972 s u same 0 0 refl (omega arith),
        cache_same 0 33972 s u same 0 0 refl h l,
        palette_same 0 33972 s u same 0 0 refl h l,
      ) refl
  wide_by false e = rw (number_wide, e) refl

  pub block_wide : block_of u ≡ block_of (u ++ v)
  block_wide = wide_by (eqb (text_number (u ++ v) 0) 0) refl

-- ---- its own bytes

pub block_within : (s : List ℕ) → (block_of s).taken ≤ length s
unfolding block_of
block_within s =
    let h = header_at s 0 in
    let cache = cache_at s 0 h in
    let p = palette_at s 0 h in
    let block = listed_block (places_of h 0).end h.width h.height h.bd cache p in
    let go : (t : Bool) → eqb (text_number s 0) 0 ≡ t → (cond t block (refused_block (text_number s 0) 0)).taken ≤ length s =
    elim [
      | true ↦ λ e. rw (listed_taken (places_of h 0).end h.width h.height h.bd cache p) (end_within s 0 (eqb-true _ _ e))
      | false ↦ λ e. omega arith
    ] in
    go (eqb (text_number s 0) 0) refl
