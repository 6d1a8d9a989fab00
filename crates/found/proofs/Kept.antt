-- A map that the search kept passes each test of the listing. Assumes nothing.
use Prim.Native.Nat.{ℕ, ◌*◌, ◌≤◌, ◌<◌}
use mathlib.Core.Bool.{Bool, true, false}
use mathlib.Core.Path.{◌≡◌, refl, sym, ap, ◌∙◌, subst}
use mathlib.Core.List.{List, map}
use native.Mathlib.Nat.{le_of_eq}
use native.Mathlib.Omega.{arith}
use lib.Ieee.{Float, binary32}
use lib.ListN.{length, replicate, length-replicate}
use borrow.Author.Tests.{le-leb, eq-eqb}
use Rattle.ieee.specs.Numbers.{nat}
use Rattle.groups.specs.declared.Histogram.{Histogram}
use Rattle.groups.specs.Histogram.{IsHistogram}
use Rattle.groups.specs.Groups.{centers_of, groups_of}
use Rattle.groups.proofs.Colors.{colors_take, centers_length}
use Rattle.context.specs.Map.{lines_of}
use Rattle.scan.specs.Scan.{scan_of, Sound}
use Rattle.scan.specs.declared.Scan.{Scan}
use Rattle.scan.proofs.Scans.{scan_sound, lines_are}
use Rattle.literals.specs.Literals.{levels_ok}
use Rattle.accept.specs.Palette.{Palette, first_colors, palette_of}
use Rattle.accept.specs.Accepted.{sides_ok, depth_ok, colors_ok, orient_ok, cache_ok, counts_ok, Accepted}
use Rattle.sizes.specs.declared.Block.{Block}
use Rattle.counts.specs.Counts.{orient_sent}
use Rattle.sizes.specs.Sizes.{head_of}
use Rattle.search.specs.Search.{Standing, histogram_in}
use Rattle.search.proofs.Passed.{Ready}
use Rattle.lists.proofs.Zeros.{zeros_below}
use Rattle.search.proofs.Colors.{levels_in, is_histogram, levels_ok_holds}
use Rattle.search.proofs.Kept.{Kept, kept_cells, kept_flags}
use Rattle.found.proofs.Valid.{Valid, found_valid}
use Rattle.found.proofs.Accepted.{accepted}

-- ---- the tests of the listing, each from plain facts
sides_ok_holds : (w h : ℕ) → 1 ≤ w → w ≤ 64 → 1 ≤ h → h ≤ 64 → sides_ok w h ≡ true
unfolding sides_ok
sides_ok_holds w h p q r s = rw (le-leb 1 w p, le-leb w 64 q, le-leb 1 h r, le-leb h 64 s) refl

depth_ok_holds : (bd : ℕ) → 8 ≤ bd → bd ≤ 12 → depth_ok bd ≡ true
unfolding depth_ok
depth_ok_holds bd p q = rw (le-leb 8 bd p, le-leb bd 12 q) refl

colors_ok_holds : (bd : ℕ) (cs : List ℕ) → 2 ≤ length cs → length cs ≤ 8 → levels_ok bd cs ≡ true → colors_ok bd cs ≡ true
unfolding colors_ok
colors_ok_holds bd cs p q l = rw (le-leb 2 (length cs) p, le-leb (length cs) 8 q, l) refl

orient_ok_holds : (w h : ℕ) (t : Bool) → (t ≡ true → orient_sent w h ≡ true) → orient_ok w h t ≡ true
unfolding orient_ok
orient_ok_holds w h false f = refl
orient_ok_holds w h true f = f refl

cache_ok_holds : (cached : ℕ) → cached ≤ 64 → cache_ok cached ≡ true
unfolding cache_ok
cache_ok_holds cached p = le-leb cached 64 p

counts_ok_holds : (w h : ℕ) (p : Palette) → length p.map ≡ w * h → length p.flags ≡ lines_of p.transposed w h
    → counts_ok w h p ≡ true
unfolding counts_ok
counts_ok_holds w h p m f = rw (eq-eqb _ _ m, eq-eqb _ _ f) refl

-- ---- a kept map passes them all
module _ {samples costs : List Float} {b : Block} {room lineRoom : ℕ} (ready : Ready samples costs b room lineRoom)
    (few : (histogram_in samples).n ≤ 32) {s : Standing} (kept : Kept samples costs b (histogram_in samples) s) where
  abbrev histogram : Histogram
  histogram = histogram_in samples

  abbrev w : ℕ
  w = b.width

  abbrev h : ℕ
  h = b.height

  abbrev n : ℕ
  n = s.best.n

  abbrev t : Bool
  t = s.best.transposed

  abbrev scan : Scan
  scan = scan_of w h t

  sound : Sound scan (w * h)
  sound = scan_sound w h t ready.wide ready.wide_most ready.high ready.high_most

  some : 0 < n
  some = omega (arith, kept.two)

  is : IsHistogram (levels_in samples) histogram
  is = is_histogram ready refl few

  -- its colours are those of its groups
  colors_are : first_colors s.best.colors n ≡ centers_of histogram n
  unfolding first_colors
  colors_are =
      rw (le-leb n 8 kept.eight, kept.colors)
      (colors_take (levels_in samples) histogram is n some kept.few kept.eight)

  colors_count : length (first_colors s.best.colors n) ≡ n
  colors_count = rw colors_are (centers_length (levels_in samples) histogram is n some kept.few)

  colors_pass : colors_ok b.bd (first_colors s.best.colors n) ≡ true
  colors_pass =
      colors_ok_holds b.bd _ (omega (arith, kept.two, colors_count)) (omega (arith, kept.eight, colors_count))
      (rw colors_are (levels_ok_holds ready refl few n (kept.two, kept.eight, kept.few)))

  -- its map is that of a walk that ended
  valid : Valid n scan s.map s.flags
  valid =
      let colours = map (nat binary32) (groups_of histogram n).colors in
      let head = head_of costs b (centers_of histogram n) in
      let cells = le_of_eq (sym (length-replicate {A = ℕ} (w * h) 0)) in
      let lines = le_of_eq (sym (length-replicate {A = ℕ} scan.lines 0)) in
      subst (λ e. Valid n scan e.map e.flags) kept.whole
      (found_valid samples costs colours n b.lambda scan (w * h) sound some kept.eight head kept.bound
      (replicate (w * h) 0) (replicate scan.lines 0) cells lines (λ i. zeros_below (w * h) n i some) kept.cost (ap (λ e. e.result) kept.whole))

  pub kept_accepted : (cache : List ℕ) → length cache ≤ 64
      → Accepted w h b.bd cache (palette_of s.best.colors n t s.map s.flags)
  kept_accepted cache cached = record {
    sides = sides_ok_holds w h ready.wide ready.wide_most ready.high ready.high_most;
    depth = depth_ok_holds b.bd ready.deep ready.deep_most;
    colors = colors_pass;
    orient = orient_ok_holds w h t kept.orient;
    cache_length = cache_ok_holds (length cache) cached;
    counts = counts_ok_holds w h _ (kept_cells kept) (kept_flags kept ∙ (lines_are w h t).0);
    map = accepted w h t sound valid (first_colors s.best.colors n) colors_count;
  }
