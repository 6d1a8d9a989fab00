-- A palette cut to its room: its refusal stays, and where that is 0 nothing was cut. Assumes nothing.
use Prim.Native.Nat.{ℕ, zero, suc, ◌*◌, ◌≤◌}
use mathlib.Core.Path.{◌≡◌, refl, ap, ◌∙◌}
use mathlib.Core.Bool.{Bool, true, false, ◌&&◌}
use native.Mathlib.Omega.{arith}
use lib.Dec.{eqb, ltb}
use lib.ListN.{length, get_or}
use lib.Seq.{ext_get_or}
use borrow.Author.Tests.{eqb-true, le-ltb}
use Rattle.lists.specs.Counted.{all_below, all_in}
use Rattle.lists.proofs.Choice.{held, and_l, and_r}
use Rattle.lists.proofs.Counted.{all_below_at, all_below_same}
use Rattle.context.specs.Map.{lines_of, length_of, line_cell}
use Rattle.accept.specs.Palette.{Palette}
use Rattle.accept.specs.Accepted.{sides_ok, depth_ok, colors_ok, orient_ok, cache_ok, counts_ok, line_ok, map_ok, refusal}
use Rattle.fields.specs.Fields.{cut}
use Rattle.fields.proofs.Laws.{length_cut}
use Rattle.text.proofs.Cut.{test_cut, test_kept, all_cut, all_kept, get_d_cut, colors_cut, colors_kept, colors_few}

-- ---- flags and map

unfoldable pub cut_palette : Palette → Palette
cut_palette p =
    record { colors = cut 65535 p.colors; transposed = p.transposed; flags = cut 255 p.flags; map = cut 255 p.map }

rest_cut : Palette → Palette
rest_cut p = record { colors = p.colors; transposed = p.transposed; flags = cut 255 p.flags; map = cut 255 p.map }

module _ (w h : ℕ) (p : Palette) where
  abbrev index_test : ℕ → Bool
  index_test i = ltb i (length p.colors)

  abbrev flag_test : ℕ → ℕ → Bool
  flag_test l v = line_ok v (line_cell p.transposed p.map w) (length_of p.transposed w h) l

  high_flag : (l v : ℕ) → 255 ≤ v → flag_test l v ≡ false
  unfolding line_ok
  high_flag l zero k = absurd (omega arith)
  high_flag l (suc zero) k = absurd (omega arith)
  high_flag l (suc (suc zero)) k = absurd (omega arith)
  high_flag l (suc (suc (suc v))) k = refl

  counts_cut : counts_ok w h (rest_cut p) ≡ counts_ok w h p
  unfolding counts_ok rest_cut
  counts_cut = rw (length_cut 255 p.map, length_cut 255 p.flags) refl

  module _ (few : length p.colors ≤ 8) where
    high_index : (i : ℕ) → 255 ≤ i → index_test i ≡ false
    high_index i k = le-ltb i (length p.colors) (omega arith)

    map_by : (t : Bool) → all_in index_test p.map ≡ t → map_ok w h (rest_cut p) ≡ map_ok w h p
    unfolding map_ok rest_cut
    map_by true e =
        rw (all_kept index_test 255 high_index p.map e)
        (ap (λ (b : Bool). all_in index_test p.map && b)
        (all_below_same (λ l. flag_test l (get_or (cut 255 p.flags) l 0)) (λ l. flag_test l (get_or p.flags l 0)) (lines_of p.transposed w h)
        (λ l. rw (get_d_cut 255 p.flags l) (test_cut (flag_test l) 255 (high_flag l) (get_or p.flags l 0)))))
    map_by false e = rw (all_cut index_test 255 high_index p.map, e) refl

    map_kept : map_ok w h p ≡ true → cut 255 p.map ≡ p.map
    unfolding map_ok
    map_kept e = all_kept index_test 255 high_index p.map (and_l (all_in index_test p.map) _ e)

  flags_kept : counts_ok w h p ≡ true → map_ok w h p ≡ true → cut 255 p.flags ≡ p.flags
  unfolding counts_ok map_ok
  flags_kept c m =
      let lines = lines_of p.transposed w h in
      let n : length p.flags ≡ lines = eqb-true _ _ (and_r (eqb (length p.map) (w * h)) (eqb (length p.flags) lines) c) in
      let b = and_r (all_in index_test p.map) (all_below (λ l. flag_test l (get_or p.flags l 0)) lines) m in
      ext_get_or 0 (cut 255 p.flags) p.flags (length_cut 255 p.flags)
      (λ i l.
      get_d_cut 255 p.flags i
      ∙ test_kept (flag_test i) 255 (high_flag i) (get_or p.flags i 0)
      (all_below_at _ lines b i (omega (arith, n, length_cut 255 p.flags))))

-- ---- the palette

module _ (w h bd cached : ℕ) (p : Palette) where
  refusal_by : (d c : Bool) → depth_ok bd ≡ d → colors_ok bd p.colors ≡ c
      → refusal w h bd cached (cut_palette p) ≡ refusal w h bd cached p
  unfolding refusal cut_palette rest_cut
  refusal_by false c e f = rw e refl
  refusal_by true false e f = rw (colors_cut bd p.colors e, f) refl
  refusal_by true true e f =
      rw (
        colors_kept bd p.colors e f,
        counts_cut w h p,
        map_by w h p (colors_few bd p.colors f) (all_in (index_test w h p) p.map) refl,
      ) refl

  -- the refusal stays
  pub refusal_cut : refusal w h bd cached (cut_palette p) ≡ refusal w h bd cached p
  refusal_cut = refusal_by (depth_ok bd) (colors_ok bd p.colors) refl refl

  -- where it is 0, nothing was cut
  pub accepted_cut : refusal w h bd cached p ≡ 0 → cut_palette p ≡ p
  unfolding refusal cut_palette
  accepted_cut e =
      let a = held (sides_ok w h) 0 _ e in
      let b = held (depth_ok bd) 1 _ a.1 in
      let c = held (colors_ok bd p.colors) 10 _ b.1 in
      let d = held (orient_ok w h p.transposed) 11 _ c.1 in
      let f = held (cache_ok cached) 12 _ d.1 in
      let g = held (counts_ok w h p) 13 _ f.1 in
      let k = (held (map_ok w h p) 14 _ g.1).0 in
      rw (
        colors_kept bd p.colors b.0 c.0,
        flags_kept w h p g.0 k,
        map_kept w h p (colors_few bd p.colors c.0) k,
      ) refl
