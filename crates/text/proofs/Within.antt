-- A palette that is in form lies within its text. Assumes nothing.
use Prim.Native.Nat.{ℕ, zero, suc, ◌+◌, ◌*◌, ◌≤◌, ◌<◌}
use mathlib.Core.Path.{◌≡◌, refl}
use mathlib.Core.Bool.{Bool, true, false, ◌&&◌}
use mathlib.Core.List.{List}
use native.Mathlib.Nat.{suc-mul, zero-mul}
use native.Mathlib.Omega.{arith}
use lib.Dec.{leb}
use lib.ListN.{length, get_or, get_or-eq_default}
use borrow.Author.Tests.{leb-true, leb-false, eqb-true}
use Rattle.lists.proofs.Choice.{and_l, and_r}
use Rattle.fields.specs.Fields.{field_at, number_up_to, is_line, are_rows}
use Rattle.text.specs.declared.Header.{Header}
use Rattle.text.specs.Text.{most, header_at, lines_in, places_of, is_body, text_number}
use Rattle.text.proofs.Sound.{in_form}

module _ (s : List ℕ) (limit : ℕ) where
  byte_by : (at : ℕ) → get_or s at 0 ≡ 10 → (t : Bool) → leb (length s) at ≡ t → at < length s
  byte_by at e true l = let z : get_or s at 0 ≡ 0 = get_or-eq_default s 0 (leb-true (length s) at l) in absurd (omega arith)
  byte_by at e false l = leb-false (length s) at l

  line_within : (at k : ℕ) → is_line limit s at k ≡ true → at + (8 * k + 1) ≤ length s
  unfolding is_line
  line_within at zero e = omega (arith, byte_by at (eqb-true (get_or s at 0) 10 e) (leb (length s) at) refl)
  line_within at (suc k) e =
      omega (arith, line_within (at + 8) k (and_r (number_up_to limit (field_at s at)) (is_line limit s (at + 8) k) e))

  rows_within : (at w h : ℕ) → at ≤ length s → are_rows limit s at w h ≡ true → at + h * (8 * w + 1) ≤ length s
  unfolding are_rows
  rows_within at w zero l e = omega (arith, zero-mul (8 * w + 1))
  rows_within at w (suc h) l e =
      let first = is_line limit s at w in
      let rest = are_rows limit s (at + (8 * w + 1)) w h in
      let a : at + (8 * w + 1) ≤ length s = line_within at w (and_l first rest e) in
      omega (arith, suc-mul h (8 * w + 1), rows_within (at + (8 * w + 1)) w h a (and_r first rest e))

body_within : (s : List ℕ) (at : ℕ) (h : Header) → is_body s at h ≡ true → (places_of h at).end ≤ length s
unfolding is_body places_of
body_within s at h e =
    let p = places_of h at in
    let c = is_line most s p.colors h.n && is_line 65535 s p.cache h.cached in
    let f = is_line most s p.flags (lines_in h) in
    let r = are_rows most s p.rows h.width h.height in
    rows_within s most p.rows h.width h.height
    (line_within s most p.flags (lines_in h) (and_r c f (and_l (c && f) r e))) (and_r (c && f) r e)

-- where a palette's text is in form, it ends within the text
pub end_within : (s : List ℕ) (at : ℕ) → text_number s at ≡ 0 → (places_of (header_at s at) at).end ≤ length s
end_within s at e = body_within s at (header_at s at) (in_form s at e).1
