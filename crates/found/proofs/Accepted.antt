-- A valid map of a block passes the listing's test 15. Assumes nothing.
use Prim.Native.Nat.{ℕ, suc, ◌*◌, ◌<◌}
use mathlib.Core.Bool.{Bool, true}
use mathlib.Core.Path.{◌≡◌, refl, sym, ◌∙◌}
use mathlib.Core.List.{List, [], ◌∷◌}
use lib.Dec.{ltb}
use lib.ListN.{get_or, length}
use borrow.Author.Tests.{lt-ltb}
use Rattle.lists.specs.Counted.{all_in}
use Rattle.lists.proofs.Counted.{all_below_of}
use Rattle.accept.specs.Accepted.{line_ok, map_ok}
use Rattle.context.specs.Map.{cell, line_cell, lines_of, length_of}
use Rattle.near.specs.Near.{Below}
use Rattle.scan.specs.Scan.{scan_of, cell_in, Sound}
use Rattle.scan.proofs.Scans.{line_cell_holds, lines_are}
use Rattle.found.proofs.Lines.{line_same}
use Rattle.found.proofs.Valid.{Valid}

all_in_below : (m : List ℕ) (n : ℕ) → Below m n → all_in (λ i. ltb i n) m ≡ true
unfolding all_in
all_in_below [] n below = refl
all_in_below (x ∷ xs) n below = rw (lt-ltb x n (below 0), all_in_below xs n (λ j. below (suc j))) refl

module _ (w h : ℕ) (t : Bool) (sound : Sound (scan_of w h t) (w * h)) {n : ℕ} {map flags : List ℕ}
    (valid : Valid n (scan_of w h t) map flags) where
  line_ok_at : (l : ℕ) → l < lines_of t w h → line_ok (get_or flags l 0) (line_cell t map w) (length_of t w h) l ≡ true
  unfolding line_cell cell
  line_ok_at l inside =
      let scan = scan_of w h t in
      let counts = lines_are w h t in
      let among : l < scan.lines = rw counts.0 inside in
      rw (← counts.1)
      (line_same (get_or flags l 0) scan.len l _ (cell_in map scan) sound.some (λ j a up short. sym (line_cell_holds map w h t j a))
      ∙ valid.lines l among)

  pub accepted : (colors : List ℕ) → length colors ≡ n
      → map_ok w h (record { colors = colors; transposed = t; flags = flags; map = map }) ≡ true
  unfolding map_ok
  accepted colors count = rw (count, all_in_below map n valid.below, all_below_of _ (lines_of t w h) line_ok_at) refl
