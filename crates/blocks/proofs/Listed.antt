-- With room for every list, what `list` answered gives the block; numbers cut to their room give the same one. Assumes nothing.
use Prim.Native.Nat.{ℕ, ◌*◌, ◌≤◌}
use mathlib.Core.Path.{◌≡◌, refl, sym, ◌∙◌}
use mathlib.Core.Bool.{Bool, true, false, cond}
use mathlib.Core.List.{List}
use native.Mathlib.Omega.{arith}
use lib.Dec.{eqb}
use lib.ListN.{length}
use borrow.Author.Tests.{eqb-true, eq-eqb, ne_eqb, le-leb}
use Rattle.lists.specs.Written.{front}
use Rattle.lists.proofs.Choice.{either_way}
use Rattle.literals.specs.Words.{raw_width_of}
use Rattle.accept.specs.Palette.{Palette}
use Rattle.accept.specs.Accepted.{refusal}
use Rattle.accept.proofs.Accepted.{accepted_of_zero}
use Rattle.listing.specs.declared.Listed.{Listed}
use Rattle.listing.specs.Listing.{call_list, list_number, Lists}
use Rattle.listing.proofs.Length.{list_few}
use Rattle.text.proofs.CutPalette.{cut_palette, refusal_cut, accepted_cut}
use Rattle.blocks.specs.declared.Block.{Block}
use Rattle.blocks.specs.Block.{refused_block, listed_block}

module _ (taken w h bd : ℕ) (cache : List ℕ) (p : Palette) where
  abbrev number : ℕ
  number = refusal w h bd (length cache) p

  abbrev words : List ℕ
  words = call_list w h bd cache p

  -- ---- what `list` answered

  module _ (before after : List ℕ) (r : Listed) (room : 4234 ≤ length before) (l : Lists w h bd cache p before after r) where
    number_by : (t : Bool) → eqb number 0 ≡ t → list_number w h bd cache p (length before) ≡ number
    unfolding list_number
    number_by true e =
        let z : number ≡ 0 = eqb-true number 0 e in
        let few : length words ≤ 4234 = list_few w h bd cache p (accepted_of_zero w h bd cache p z) in
        rw (e, le-leb (length words) (length before) (omega arith)) (sym z)
    number_by false e = rw e refl

    -- 16 does not occur
    number_is : r.number ≡ number
    number_is = l.number ∙ number_by (eqb number 0) refl

    pub list_refused : (r.number ≡ 0 → ⊥) → refused_block r.number taken ≡ listed_block taken w h bd cache p
    unfolding listed_block
    list_refused n = rw (← number_is) (sym (simp (ne_eqb _ _ n)))

    pub list_whole : r.number ≡ 0 → (cells : ℕ) → cells ≡ h * w
        → record { number = 0; taken = taken; calls = r.count; cells = cells; raw = r.raw_width } ≡ listed_block taken w h bd cache p
    unfolding listed_block
    list_whole z cells e =
        let c : r.count ≡ length words = l.count ∙ simp (eq-eqb _ _ z) in
        let v : r.raw_width ≡ raw_width_of words = l.width ∙ simp (eq-eqb _ _ z) in
        rw (c, v, e) (sym (simp (eq-eqb _ _ (sym number_is ∙ z))))

    pub list_words : (x : ℕ) → x ≡ r.number → after ≡ cond (eqb x 0) (front words before) before
    list_words x e = rw e l.words

  -- ---- a block's number and its end

  number_told : (t : Bool) (a b : Block) → eqb number 0 ≡ t → a.number ≡ 0 → b.number ≡ number → (cond t a b).number ≡ number
  number_told true a b e f g = f ∙ sym (eqb-true number 0 e)
  number_told false a b e f g = g

  pub listed_number : (listed_block taken w h bd cache p).number ≡ number
  unfolding listed_block
  listed_number = number_told (eqb number 0) _ _ refl refl refl

  pub listed_taken : (listed_block taken w h bd cache p).taken ≡ taken
  unfolding listed_block
  listed_taken = either_way (λ (b : Block). b.taken ≡ taken) (eqb number 0) _ _ refl refl

  pub listed_calls : number ≡ 0 → (listed_block taken w h bd cache p).calls ≡ length words
  unfolding listed_block
  listed_calls z = rw (eq-eqb _ _ z) refl

  -- ---- numbers cut to their room

  cut_by : (t : Bool) → eqb number 0 ≡ t → listed_block taken w h bd cache (cut_palette p) ≡ listed_block taken w h bd cache p
  unfolding listed_block
  cut_by true e = rw (accepted_cut w h bd (length cache) p (eqb-true _ _ e)) refl
  cut_by false e = rw (refusal_cut w h bd (length cache) p, e) refl

  pub listed_cut : listed_block taken w h bd cache (cut_palette p) ≡ listed_block taken w h bd cache p
  listed_cut = cut_by (eqb number 0) refl
