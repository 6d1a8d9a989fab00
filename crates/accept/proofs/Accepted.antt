-- The number 0 is acceptance, and acceptance in plain facts. Assumes nothing.
use mathlib.Core.Bool.{Bool, true, false, false≢true}
use mathlib.Core.List.{List}
use mathlib.Core.Path.{◌≡◌}
use Prim.Native.Nat.{ℕ, ◌*◌, ◌<◌, ◌≤◌}
use native.Mathlib.Omega.{arith}
use borrow.Author.Tests.{eqb-true, ltb-true}
use lib.Dec.{eqb, ltb}
use lib.ListN.{length, get_or}
use Rattle.lists.proofs.Choice.{either_way, held, and_l, and_r}
use Rattle.lists.proofs.Counted.{all_below_at, all_in_at}
use Rattle.lists.specs.Counted.{within, all_in}
use Rattle.context.specs.Map.{cell, lines_of, length_of, line_cell}
use Rattle.literals.specs.Literals.{levels_ok}
use Rattle.accept.specs.Accepted.{sides_ok, depth_ok, colors_ok, orient_ok, cache_ok, counts_ok, line_ok, map_ok, refusal, Accepted}
use Rattle.accept.specs.Palette.{Palette}
use Rattle.lists.proofs.Counted.{within_at}
use Rattle.accept.proofs.Lines.{in_block, flag_most, flag_first}

module _ (w h bd : ℕ) (cache : List ℕ) (p : Palette) where
  pub accepted_of_zero : refusal w h bd (length cache) p ≡ 0 → Accepted w h bd cache p
  unfolding refusal
  accepted_of_zero e =
      let s = held (sides_ok w h) _ _ e in
      let d = held (depth_ok bd) 1 _ s.1 in
      let c = held (colors_ok bd p.colors) 10 _ d.1 in
      let o = held (orient_ok w h p.transposed) 11 _ c.1 in
      let l = held (cache_ok (length cache)) 12 _ o.1 in
      let n = held (counts_ok w h p) 13 _ l.1 in
      let m = held (map_ok w h p) 14 _ n.1 in
      record { sides = s.0; depth = d.0; colors = c.0; orient = o.0; cache_length = l.0; counts = n.0; map = m.0 }

  pub zero_of_accepted : Accepted w h bd cache p → refusal w h bd (length cache) p ≡ 0
  unfolding refusal
  zero_of_accepted a = rw (a.sides, a.depth, a.colors, a.orient, a.cache_length, a.counts, a.map)

pub record Facts (w h bd : ℕ) (p : Palette) : Type 0 where
  pub wide : 1 ≤ w
  pub wide_most : w ≤ 64
  pub high : 1 ≤ h
  pub high_most : h ≤ 64
  pub deep : 8 ≤ bd
  pub deep_most : bd ≤ 12
  pub enough : 2 ≤ length p.colors
  pub few : length p.colors ≤ 8
  pub levels : levels_ok bd p.colors ≡ true
  pub orient : p.transposed ≡ true → (w < 64) × (h < 64)
  pub map_length : length p.map ≡ w * h
  pub flag_length : length p.flags ≡ lines_of p.transposed w h
  pub index : (i : ℕ) → i < w * h → get_or p.map i 0 < length p.colors
  pub line : (l : ℕ) → l < lines_of p.transposed w h
      → line_ok (get_or p.flags l 0) (line_cell p.transposed p.map w) (length_of p.transposed w h) l ≡ true

pub sides_at : (w h : ℕ) → sides_ok w h ≡ true → ((1 ≤ w) × (w ≤ 64)) × ((1 ≤ h) × (h ≤ 64))
unfolding sides_ok
sides_at w h e = (within_at 1 64 w (and_l (within 1 64 w) (within 1 64 h) e), within_at 1 64 h (and_r (within 1 64 w) (within 1 64 h) e))

-- transposed: both sides are below 64
small : (w h : ℕ) (t : Bool) → orient_ok w h t ≡ true → t ≡ true → (w < 64) × (h < 64)
unfolding orient_ok
small w h true e r = (ltb-true w 64 (and_l (ltb w 64) (ltb h 64) e), ltb-true h 64 (and_r (ltb w 64) (ltb h 64) e))
small w h false e r = absurd (false≢true r)

pub counts_at : (w h : ℕ) (p : Palette) → counts_ok w h p ≡ true
    → (length p.map ≡ w * h) × (length p.flags ≡ lines_of p.transposed w h)
unfolding counts_ok
counts_at w h p e =
    let cells = eqb (length p.map) (w * h) in
    (eqb-true _ _ (and_l cells _ e), eqb-true _ _ (and_r cells _ e))

pub facts : (w h bd : ℕ) (cache : List ℕ) (p : Palette) → Accepted w h bd cache p → Facts w h bd p
unfolding depth_ok colors_ok map_ok
facts w h bd cache p a =
    let s = sides_at w h a.sides in
    let d = within_at 8 12 bd a.depth in
    let n = within_at 2 8 (length p.colors) (and_l (within 2 8 (length p.colors)) _ a.colors) in
    let c = counts_at w h p a.counts in
    let m = c.0 in
    record {
      wide = s.0.0;
      wide_most = s.0.1;
      high = s.1.0;
      high_most = s.1.1;
      deep = d.0;
      deep_most = d.1;
      enough = n.0;
      few = n.1;
      levels = and_r (within 2 8 (length p.colors)) _ a.colors;
      orient = small w h p.transposed a.orient;
      map_length = m;
      flag_length = c.1;
      index = λ i g. ltb-true _ _ (all_in_at _ p.map (and_l (all_in _ p.map) _ a.map) i (omega (arith, m)));
      line = all_below_at _ (lines_of p.transposed w h) (and_r (all_in _ p.map) _ a.map);
    }

module _ (w h bd : ℕ) (p : Palette) (f : Facts w h bd p) where
  pub lines_pos : 0 < lines_of p.transposed w h
  lines_pos = either_way (λ n. 0 < n) p.transposed w h f.wide f.high

  -- a flag is 0, 1 or 2, and the first is not 2
  pub flag : (l : ℕ) → l < lines_of p.transposed w h → get_or p.flags l 0 ≤ 2
  flag l g = flag_most _ _ _ l (f.line l g)

  pub first_flag : get_or p.flags 0 0 ≤ 1
  first_flag = flag_first _ _ _ (f.line 0 lines_pos)

  pub line_index : (l a : ℕ) → l < lines_of p.transposed w h → a < length_of p.transposed w h
      → line_cell p.transposed p.map w l a < length p.colors
  unfolding line_cell cell
  line_index l a g k = f.index _ (in_block p.transposed w h l a g k).place
