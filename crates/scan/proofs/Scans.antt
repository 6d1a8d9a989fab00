-- Both orientations of a block are sound scans; their cells and lines. Assumes nothing.
use Prim.Native.Nat.{ℕ, ◌+◌, ◌*◌, ◌/◌, ◌%◌, ◌≤◌, ◌<◌}
use mathlib.Core.Bool.{Bool, true, false, cond}
use mathlib.Core.Path.{◌≡◌, refl, sym, ap, ◌∙◌}
use native.Mathlib.Omega.{arith}
use native.Mathlib.Nat.{mul-one, mul-le-mul_right, mul-le-mul_left, mul_comm, add_comm}
use lib.Arith.{digits_lt, digits_div, digits_mod}
use mathlib.Core.List.{List}
use lib.ListN.{get_or}
use lib.Dec.{eqb}
use borrow.Author.Tests.{eq-eqb, ne_eqb, eqb-true, eqb-false}
use Rattle.lists.proofs.Choice.{either_way}
use Rattle.context.specs.Map.{row_at, col_at, lines_of, length_of}
use Rattle.scan.specs.Scan.{scan_of, place_at, cell_in, Sound}
use Rattle.scan.specs.declared.Scan.{Scan}

digits_same : (w l a k b : ℕ) → a < w → b < w → l * w + a ≡ k * w + b → (l ≡ k) × (a ≡ b)
digits_same w l a k b p q e =
    (sym (digits_div l p) ∙ ap (λ (x : ℕ). x / w) e ∙ digits_div k q, sym (digits_mod l p) ∙ ap (λ (x : ℕ). x % w) e ∙ digits_mod k q)

-- the numbers that a block may have
small_product : (w h : ℕ) → w ≤ 64 → h ≤ 64 → w * h ≤ 4096
small_product w h p q = omega (arith, mul-le-mul_right h p, mul-le-mul_left 64 q)

rows_sound : (w h : ℕ) → 0 < w → w ≤ 64 → h ≤ 64 → Sound (scan_of w h false) (w * h)
rows_sound w h some wide high = record {
  small = small_product w h wide high;
  some = some;
  short = wide;
  few = high;
  inside = λ l a on inside. rw (mul-one a, mul_comm w h) (digits_lt on inside);
  apart = λ l a k b l-on k-on a_in b-in e. digits_same w l a k b a_in b-in (rw (mul-one a, mul-one b) at e);
  major = λ l a. rw (mul-one a) refl;
}

columns_sound : (w h : ℕ) → 0 < h → w ≤ 64 → h ≤ 64 → Sound (scan_of w h true) (w * h)
columns_sound w h some wide high = record {
  small = small_product w h wide high;
  some = some;
  short = high;
  few = wide;
  inside = λ l a on inside. rw (mul-one l, mul_comm w h, add_comm l) (digits_lt inside on);
  apart = λ l a k b l-on k-on a_in b-in e. (
      let same = digits_same w a l b k l-on k-on (rw (mul-one l, mul-one k, add_comm l, add_comm k) at e) in
      (same.1, same.0));
  major = λ l a. rw (mul-one l) (add_comm (a * w) l);
}

pub scan_sound : (w h : ℕ) (t : Bool) → 0 < w → w ≤ 64 → 0 < h → h ≤ 64 → Sound (scan_of w h t) (w * h)
scan_sound w h true some-wide wide some-high high = columns_sound w h some-high wide high
scan_sound w h false some-wide wide some-high high = rows_sound w h some-wide wide high

-- a sound scan of N cells is one of more, too
pub sound_mono : (s : Scan) (N M : ℕ) → Sound s N → N ≤ M → M ≤ 4096 → Sound s M
sound_mono s N M sound more most = record {
  small = most;
  some = sound.some;
  short = sound.short;
  few = sound.few;
  inside = λ l a on inside. omega (arith, sound.inside l a on inside);
  apart = sound.apart;
  major = sound.major;
}

-- a cell stands inside every map of so many cells or more
pub cell_inside : {s : Scan} {N size : ℕ} → Sound s N → N ≤ size → (l a : ℕ) → l < s.lines → a < s.len
    → row_at s.transposed l a * s.w + col_at s.transposed l a < size
cell_inside sound more l a on in-line = omega (arith, sound.inside l a on in-line, sound.major l a)

-- the map's first place is that of the first line's first cell
pub first_place : {s : Scan} {N : ℕ} → Sound s N → (l a : ℕ) → l < s.lines → a < s.len → eqb (place_at s l a) 0 ≡ eqb (l + a) 0
first_place {s} sound l a on in-line = go (eqb (l + a) 0) refl
  where
    none : (l a : ℕ) → l + a ≡ 0 → place_at s l a ≡ 0
    none l a e = let p : l ≡ 0 = omega arith in let q : a ≡ 0 = omega arith in rw (p, q) (omega arith)

    go : (t : Bool) → eqb (l + a) 0 ≡ t → eqb (place_at s l a) 0 ≡ t
    go true e = eq-eqb (place_at s l a) 0 (none l a (eqb-true (l + a) 0 e))
    go false e = ne_eqb (place_at s l a) 0 (λ z.
        let same = sound.apart l a 0 0 on (omega arith) in-line sound.some (z ∙ sym (none 0 0 refl)) in
        eqb-false (l + a) 0 e (omega (arith, same.0, same.1)))

-- a scan's cells by row and column, as the listing's acceptance reads them
pub line_cell_holds : (m : List ℕ) (w h : ℕ) (t : Bool) (l a : ℕ) → cell_in m (scan_of w h t) l a ≡ get_or m (cond t a l * w + cond t l a) 0
line_cell_holds m w h true l a = rw (mul-one l, add_comm l) refl
line_cell_holds m w h false l a = rw (mul-one a) refl

-- ---- a block's lines, how many and how long

pub lines_are : (w h : ℕ) (t : Bool) → ((scan_of w h t).lines ≡ lines_of t w h) × ((scan_of w h t).len ≡ length_of t w h)
lines_are w h true = (refl, refl)
lines_are w h false = (refl, refl)

-- a room that holds either side holds one flag per line
pub lines_most : (t : Bool) (w h room : ℕ) {count : ℕ} → count ≡ lines_of t w h → w ≤ room → h ≤ room → count ≤ room
lines_most t w h room e wide high = rw e (either_way (λ n. n ≤ room) t w h wide high)
