use native.Mathlib.Nat.{mul-le-mul}
use Rattle.std.proofs.Common.{ℕ, ◌+◌, ◌≤◌, ◌≡◌, refl, sym, ap, ◌∙◌, List, ◌++◌, arith, length, take, get_or, length-append}
use Rattle.std.proofs.lemmas.List.{length-take-le}
use Rattle.lists.specs.Counted.{bit}
use Rattle.lists.specs.Written.{written}
use Rattle.lists.proofs.Written.{written_append, written_take}
use Rattle.counts.specs.Counts.{orient_sent}
use Rattle.context.specs.Map.{lines_of, length_of}
use Rattle.literals.specs.Words.{word, raw_bits, raw_width_of}
use Rattle.accept.specs.Palette.{first_colors, Palette}
use Rattle.accept.specs.Mapped.{palette_in}
use Rattle.accept.specs.Accepted.{Accepted}
use Rattle.accept.proofs.Accepted.{Facts, facts, accepted_of_zero}
use Rattle.accept.proofs.Levels.{first_colors_holds, length_first}
use Rattle.emit.specs.Colors.{color_words}
use Rattle.emit.specs.Map.{LinesInside, map_words}
use Rattle.listing.specs.declared.Passed.{Passed}
use Rattle.listing.specs.Listing.{call_list}
use Rattle.listing.proofs.Inside.{inside, long, some_cell}
use Rattle.listing.proofs.Length.{list_few}
use Rattle.listing.proofs.Raw.{raw_append, raw_map}
use Rattle.listing.proofs.Passed.make.Goals as goal

module _ (s : Passed) where
  abbrev w : ℕ
  w = s.block.width

  abbrev h : ℕ
  h = s.block.height

  abbrev n : ℕ
  n = s.block.n

  abbrev p : Palette
  p = palette_in s.block

  abbrev list : List ℕ
  list = call_list w h s.block.bd s.cache.now p

  abbrev told_colors : List ℕ
  told_colors = color_words s.block.bd s.cache.now (take n s.block.colors)

  abbrev told_map : List ℕ
  told_map = map_words n s.block.transposed s.block.flags.now s.block.map.now w h

  ok : Accepted w h s.block.bd s.cache.now p
  ok = accepted_of_zero _ _ _ _ _ s.passed

  known : Facts w h s.block.bd p
  known = facts _ _ _ _ _ ok

  taken : first_colors s.block.colors n ≡ take n s.block.colors
  taken = first_colors_holds s.block.colors s.few.0 n s.few.1

  count : length (first_colors s.block.colors n) ≡ n
  count = length_first s.block.colors s.few.0 n s.few.1

  size : length (take n s.block.colors) ≡ n
  size = length-take-le n s.block.colors (omega (arith, s.few))

  parts : list ≡ told_colors ++ told_map
  unfolding call_list
  parts = rw (count, taken) refl

  sum : length list ≡ length told_colors + length told_map
  sum = rw parts (length-append told_colors told_map)

  most : length told_colors + length told_map ≤ 4234
  most = omega (arith, list_few _ _ _ _ _ ok, sum)

  lines_inside : LinesInside s.block.map.now w n s.block.transposed (lines_of s.block.transposed w h) (length_of s.block.transposed w h)
  lines_inside = rw count at (inside _ _ _ _ known)

  cells_few : length s.block.map.now ≤ 4096
  cells_few = omega (arith, known.map_length, mul-le-mul known.wide_most known.high_most)

  raw : raw_width_of list ≡ raw_width_of told_colors + (bit (orient_sent w h) + raw_bits (word 2 n (get_or s.block.map.now 0 0)))
  raw =
      ap raw_width_of parts ∙ raw_append told_colors told_map
      ∙ ap (λ (k : ℕ). raw_width_of told_colors + k) (rw count at (raw_map _ _ _ _ known))

-- the colours stand in front
taken_colors : (colors out after : List ℕ) (at : ℕ) → length colors ≤ length out → at ≡ 0 + length colors → after ≡ written out 0 colors
    → take at after ≡ colors
taken_colors colors out after at room e w =
    let count : at ≡ length colors = omega (arith, e) in
    rw (count, w) (written_take out colors (omega arith))

pub emit_colors-at-requires : goal.emit_colors-at-requires
emit_colors-at-requires c =
    let s = c.args.self.now in
    let f = known s in
    record {
      le_n = (
        rw (size s) (rw (count s) at f.enough),
        rw (size s) s.few.1,
        f.deep,
        f.deep_most,
        rw (taken s) at f.levels,
      );
      colors_in_bounds = omega (arith, most s, c.requires);
    }

pub slice_bounds-raw_width-end : goal.slice_bounds-raw_width-end
slice_bounds-raw_width-end c =
    let s = c.args.self.now in
    let e = c.emit_colors-at in
    omega (arith, e.ensures.value, most s, c.requires, e.auto.out)

pub slice_bounds-raw_width-end-2 : goal.slice_bounds-raw_width-end-2
slice_bounds-raw_width-end-2 c =
    let s = c.args.self.now in
    let e = c.emit_colors-at in
    let room : e.result ≤ length e.new.out = omega (arith, e.ensures.value, most s, c.requires, e.auto.out) in
    sym (length-take-le e.result e.new.out room)

pub raw_width-before-requires : goal.raw_width-before-requires
raw_width-before-requires c =
    let s = c.args.self.now in
    let e = c.emit_colors-at in
    let room : e.result ≤ length e.new.out = omega (arith, e.ensures.value, most s, c.requires, e.auto.out) in
    omega (arith, length-take-le e.result e.new.out room, e.ensures.value, most s)

pub invariant_of-map : goal.invariant_of-map
invariant_of-map c =
    let s = c.args.self.now in
    let f = known s in
    record {
      inside = lines_inside s;
      small = (f.wide_most, cells_few s);
      lines = (long _ _ _ _ f, omega (arith, f.flag_length));
    }

pub emit_map-count-requires : goal.emit_map-count-requires
emit_map-count-requires c =
    let s = c.args.self.now in
    let e = c.emit_colors-at in
    omega (arith, most s, c.requires, e.ensures.value, e.auto.out)

pub bounds-block-0 : goal.bounds-block-0
bounds-block-0 c =
    let s = c.args.self.now in
    some_cell _ _ _ _ (known s)

pub overflow_add-raw : goal.overflow_add-raw
overflow_add-raw c =
    let s = c.args.self.now in
    let e = c.emit_colors-at in
    let room : e.result ≤ length e.new.out = omega (arith, e.ensures.value, most s, c.requires, e.auto.out) in
    omega (
      arith,
      c.raw_width-before.ensures.1,
      length-take-le e.result e.new.out room,
      e.ensures.value,
      most s,
      c.map_raw_width.ensures.1,
    )

pub returns : goal.returns
returns c =
    let s = c.args.self.now in
    let colors = told_colors s in
    let room : length colors ≤ length c.args.out.now = omega (arith, most s, c.requires) in
    let e = c.emit_colors-at in
    let m = c.emit_map-count in
    let front = taken_colors colors c.args.out.now e.new.out e.result room e.ensures.value e.ensures.out_after in
    record {
      count_value = omega (arith, m.ensures.value, e.ensures.value, sum s);
      raw_width_value = omega (
        arith,
        c.raw_width-before.ensures.0,
        ap raw_width_of front,
        c.map_raw_width.ensures.0,
        raw s,
      );
      out_after = m.ensures.out_after ∙ rw (e.ensures.out_after, e.ensures.value, parts s) (written_append c.args.out.now 0 colors _);
    }
