-- A block counts little: so many calls, cells and bits of raw width at most. Assumes nothing.
use Prim.Native.Nat.{ℕ, ◌*◌, ◌≤◌}
use mathlib.Core.Path.{◌≡◌, refl, sym, subst}
use mathlib.Core.Bool.{Bool, true, false, cond}
use mathlib.Core.List.{List}
use native.Mathlib.Omega.{arith}
use lib.Dec.{eqb}
use lib.ListN.{length}
use borrow.Author.Tests.{eqb-true}
use Rattle.literals.specs.Words.{raw_width_of}
use Rattle.accept.specs.Palette.{Palette}
use Rattle.accept.specs.Accepted.{refusal}
use Rattle.accept.proofs.Accepted.{accepted_of_zero}
use Rattle.listing.specs.Listing.{call_list}
use Rattle.listing.proofs.Length.{list_few}
use Rattle.listing.proofs.RawFew.{raw_few}
use Rattle.text.specs.Text.{header_at, places_of, text_number, cache_at, palette_at}
use Rattle.text.proofs.Sound.{in_form_small, cells_small}
use Rattle.blocks.specs.declared.Block.{Block}
use Rattle.blocks.specs.Block.{refused_block, listed_block, block_of, Few}

pub refused_few : (number taken : ℕ) → Few (refused_block number taken)
refused_few number taken = record { calls = omega arith; cells = omega arith; raw = omega arith }

listed_few : (taken w h bd : ℕ) (cache : List ℕ) (p : Palette) → h * w ≤ 4096 → Few (listed_block taken w h bd cache p)
unfolding listed_block
listed_few taken w h bd cache p small =
    let number = refusal w h bd (length cache) p in
    let words = call_list w h bd cache p in
    let listed : Block = record { number = 0; taken = taken; calls = length words; cells = h * w; raw = raw_width_of words } in
    let go : (t : Bool) → eqb number 0 ≡ t → Few (cond t listed (refused_block number taken)) =
    elim [
      | true ↦ λ e.
          let a = accepted_of_zero w h bd cache p (eqb-true number 0 e) in
          record { calls = list_few w h bd cache p a; cells = small; raw = raw_few w h bd cache p a }
      | false ↦ λ e. refused_few number taken
    ] in
    go (eqb number 0) refl

pub block_few : (s : List ℕ) → Few (block_of s)
unfolding block_of
block_few s =
    let h = header_at s 0 in
    let listed = listed_block (places_of h 0).end h.width h.height h.bd (cache_at s 0 h) (palette_at s 0 h) in
    let go : (t : Bool) → eqb (text_number s 0) 0 ≡ t → Few (cond t listed (refused_block (text_number s 0) 0)) =
    elim [
      | true ↦ λ e. listed_few _ _ _ _ _ _ (cells_small h (in_form_small s 0 h refl (eqb-true _ _ e)))
      | false ↦ λ e. refused_few (text_number s 0) 0
    ] in
    go (eqb (text_number s 0) 0) refl

pub with_few : (s : List ℕ) (b : Block) → b ≡ block_of s → (b ≡ block_of s) × Few b
with_few s b e = (e, subst (λ (x : Block). Few x) (sym e) (block_few s))
