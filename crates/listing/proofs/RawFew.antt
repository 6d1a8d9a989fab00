-- A list's raw width is small: a bound that is easily had, not the least one. Assumes nothing.
use Prim.Native.Nat.{ℕ, ◌+◌, ◌*◌, ◌-◌, ◌≤◌, ◌<◌}
use mathlib.Core.List.{List, [], ◌∷◌}
use native.Mathlib.Omega.{arith}
use lib.ListN.{length, get_or}
use borrow.Author.Tests.{leb-true}
use Rattle.lists.specs.Counted.{bit, elem}
use Rattle.lists.proofs.Counted.{bit_most}
use Rattle.counts.specs.Counts.{orient_sent}
use Rattle.counts.proofs.Uniform.{uniform_below}
use Rattle.literals.specs.Words.{word, raw_width_of}
use Rattle.literals.specs.Literals.{literal_words}
use Rattle.literals.proofs.Words.{raw_word, bits_most}
use Rattle.literals.proofs.Widths.{length_literals}
use Rattle.accept.specs.Palette.{Palette}
use Rattle.accept.specs.Accepted.{cache_ok, Accepted}
use Rattle.accept.proofs.Accepted.{facts}
use Rattle.emit.specs.Colors.{remove, cache_words, untaken, color_words}
use Rattle.emit.specs.Map.{map_words}
use Rattle.emit.proofs.Untaken.{untaken_few}
use Rattle.listing.specs.Listing.{call_list}
use Rattle.listing.proofs.Inside.{some_cell}
use Rattle.listing.proofs.Raw.{raw_append, raw_map}

raw_most : (ws : List ℕ) → raw_width_of ws ≤ 255 * length ws
unfolding raw_width_of
raw_most [] = omega arith
raw_most (w ∷ ws) = omega (arith, bits_most w, raw_most ws)

-- a cache entry has one bit
cache_raw : (es cs : List ℕ) → raw_width_of (cache_words es cs) ≤ length es
unfolding cache_words raw_width_of
cache_raw [] cs = omega arith
cache_raw (e ∷ es) [] = omega arith
cache_raw (e ∷ es) (c ∷ cs) =
    let taken = elem e (c ∷ cs) in
    omega (arith, raw_word 1 1 (bit taken) (omega arith) (omega (arith, bit_most taken)), cache_raw es (remove e (c ∷ cs)))

colors_raw : (bd : ℕ) (cache cs : List ℕ) → raw_width_of (color_words bd cache cs) ≤ length cache + 255 * (length cs + 2)
unfolding color_words raw_width_of
colors_raw bd cache cs =
    let literals = literal_words bd (untaken cache cs) in
    omega (
      arith,
      bits_most (word 3 0 (length cs - 2)),
      raw_append (cache_words cache cs) literals,
      cache_raw cache cs,
      raw_most literals,
      length_literals bd (untaken cache cs),
      untaken_few cache cs,
    )

pub raw_few : (w h bd : ℕ) (cache : List ℕ) (p : Palette) → Accepted w h bd cache p → raw_width_of (call_list w h bd cache p) ≤ 2618
unfolding call_list cache_ok
raw_few w h bd cache p a =
    let f = facts w h bd cache p a in
    let n = length p.colors in
    let first = get_or p.map 0 0 in
    let low : first < n = f.index 0 (omega (arith, some_cell w h bd p f, f.map_length)) in
    omega (
      arith,
      raw_append (color_words bd cache p.colors) (map_words n p.transposed p.flags p.map w h),
      colors_raw bd cache p.colors,
      raw_map w h bd p f,
      bit_most (orient_sent w h),
      raw_word 2 n first (omega (arith, f.few)) (omega (arith, low, f.few)),
      uniform_below first n 3 low f.few,
      f.few,
      leb-true (length cache) 64 a.cache_length,
    )
