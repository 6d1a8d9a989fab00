-- The longest answer. Assumes nothing.
use Prim.Native.Nat.{ℕ, ◌≤◌}
use mathlib.Core.Path.{◌≡◌, refl}
use mathlib.Core.Bool.{Bool, true, false}
use mathlib.Core.List.{List}
use native.Mathlib.Omega.{arith}
use lib.Dec.{eqb}
use lib.ListN.{length}
use borrow.Author.Tests.{eqb-true}
use Rattle.lists.proofs.Choice.{either_way}
use Rattle.printing.specs.Printing.{refused}
use Rattle.printing.proofs.Laws.{length_listed, length_refused}
use Rattle.accept.specs.Palette.{Palette}
use Rattle.accept.specs.Accepted.{refusal}
use Rattle.accept.proofs.Accepted.{accepted_of_zero}
use Rattle.listing.specs.Listing.{call_list}
use Rattle.listing.proofs.Length.{list_few}
use Rattle.text.specs.Text.{header_at, places_of, text_number, cache_at, palette_at}
use Rattle.text.specs.Answer.{shown, answer}

module _ (w h bd : ℕ) (cache : List ℕ) (p : Palette) where
  most_by : (t : Bool) → eqb (refusal w h bd (length cache) p) 0 ≡ t → length (shown w h bd cache p) ≤ 105859
  unfolding shown
  most_by true e =
      rw e (omega (arith, length_listed (call_list w h bd cache p), list_few w h bd cache p (accepted_of_zero w h bd cache p (eqb-true _ _ e))))
  most_by false e = rw e (omega (arith, length_refused (refusal w h bd (length cache) p)))

  shown_most : length (shown w h bd cache p) ≤ 105859
  shown_most = most_by (eqb (refusal w h bd (length cache) p) 0) refl

-- the count's line and a line for each of 4,234 calls
pub answer_most : (s : List ℕ) → length (answer s) ≤ 105859
unfolding answer
answer_most s =
    let h = header_at s 0 in
    let few : (k : ℕ) → length (refused k) ≤ 105859 = λ k. omega (arith, length_refused k) in
    let within : List ℕ → Type 0 = λ l. length l ≤ 105859 in
    either_way within (eqb (text_number s 0) 0) _ _
    (either_way within (eqb (places_of h 0).end (length s)) _ _
    (shown_most h.width h.height h.bd (cache_at s 0 h) (palette_at s 0 h)) (few 17))
    (few (text_number s 0))
