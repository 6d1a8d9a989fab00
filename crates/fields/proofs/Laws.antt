-- Laws of the text form: digits, lengths, and the room of a row. Assumes nothing.
use Prim.Native.Nat.{ℕ, zero, suc, ◌+◌, ◌*◌, ◌<◌, ◌≤◌, min}
use mathlib.Core.Path.{◌≡◌, refl, sym, ap, ◌∙◌}
use mathlib.Core.Bool.{true}
use mathlib.Core.List.{List, [], ◌∷◌, ◌++◌, map}
use native.Mathlib.Omega.{arith}
use native.Mathlib.Nat.{suc-mul, zero-mul, mul-le-mul_right}
use lib.Dec.{leb}
use lib.ListN.{length, length-append}
use borrow.Author.Tests.{leb-true}
use Rattle.lists.proofs.Choice.{and_l}
use Rattle.fields.specs.Fields.{is_digit, line_numbers, row_numbers, cut}

pub digit_least : (b : ℕ) → is_digit b ≡ true → 48 ≤ b
unfolding is_digit
digit_least b e = leb-true 48 b (and_l (leb 48 b) (leb b 57) e)

pub length_line : (s : List ℕ) (p k : ℕ) → length (line_numbers s p k) ≡ k
unfolding line_numbers
length_line s p zero = refl
length_line s p (suc k) = ap suc (length_line s (p + 8) k)

pub length_rows : (s : List ℕ) (p w h : ℕ) → length (row_numbers s p w h) ≡ h * w
unfolding row_numbers
length_rows s p w zero = sym (zero-mul w)
length_rows s p w (suc h) =
    length-append (line_numbers s p w) (row_numbers s (p + (8 * w + 1)) w h)
    ∙ omega (arith, length_line s p w, length_rows s (p + (8 * w + 1)) w h, suc-mul h w)

pub length_cut : (limit : ℕ) (vs : List ℕ) → length (cut limit vs) ≡ length vs
unfolding cut
length_cut limit [] = refl
length_cut limit (v ∷ vs) = ap suc (length_cut limit vs)

pub cut_append : (limit : ℕ) (us vs : List ℕ) → cut limit (us ++ vs) ≡ cut limit us ++ cut limit vs
unfolding cut
cut_append limit [] vs = refl
cut_append limit (u ∷ us) vs = ap (λ (l : List ℕ). min u limit ∷ l) (cut_append limit us vs)

-- row y of h lies within the map
pub row_room : (y h w : ℕ) → y < h → y * w + w ≤ h * w
row_room y h w l = rw (← suc-mul y w) (mul-le-mul_right w l)

-- what is stored of numbers where a limit is the most
pub map_cut : (limit : ℕ) (vs : List ℕ) → map (λ v. min v limit) vs ≡ cut limit vs
unfolding cut
map_cut limit [] = refl
map_cut limit (v ∷ vs) = ap (λ (l : List ℕ). min v limit ∷ l) (map_cut limit vs)
