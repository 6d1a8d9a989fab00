-- An accepted palette's list has at most 4,234 words. Assumes nothing.
use mathlib.Core.Path.{◌≡◌, refl}
use mathlib.Core.Bool.{Bool, true, false, cond, ◌&&◌}
use mathlib.Core.List.{List, [], ◌∷◌, ◌++◌}
use Prim.Native.Nat.{ℕ, zero, suc, ◌+◌, ◌*◌, ◌≤◌}
use native.Mathlib.Nat.{mul-le-mul}
use native.Mathlib.Omega.{arith}
use lib.Dec.{ltb}
use lib.ListN.{length, get_or, length-append}
use borrow.Author.Tests.{leb-true, ltb-true}
use Rattle.lists.specs.Counted.{up_to, bit}
use Rattle.lists.proofs.Choice.{either_way, and_l, and_r}
use Rattle.context.specs.Map.{lines_of, length_of}
use Rattle.literals.specs.Words.{bypass}
use Rattle.literals.specs.Literals.{literal_words}
use Rattle.literals.proofs.Widths.{length_literals}
use Rattle.accept.specs.Palette.{Palette}
use Rattle.accept.specs.Accepted.{cache_ok, Accepted}
use Rattle.accept.proofs.Accepted.{facts}
use Rattle.emit.specs.Colors.{remove, cache_words, untaken, color_words}
use Rattle.emit.specs.Map.{line_words, orient_words, map_words}
use Rattle.emit.proofs.Untaken.{untaken_few}
use Rattle.emit.proofs.Lines.{sent_few, line_length}
use Rattle.listing.specs.Listing.{call_list}

cache_few : (es cs : List ℕ) → length (cache_words es cs) ≤ length es
unfolding cache_words
cache_few [] cs = omega arith
cache_few (e ∷ es) [] = omega arith
cache_few (e ∷ es) (c ∷ cs) = omega (arith, cache_few es (remove e (c ∷ cs)))

colors_few : (bd : ℕ) (cache cs : List ℕ) → length (color_words bd cache cs) ≤ length cache + length cs + 2
unfolding color_words
colors_few bd cache cs =
    omega (
      arith,
      length-append (cache_words cache cs) (literal_words bd (untaken cache cs)),
      cache_few cache cs,
      length_literals bd (untaken cache cs),
      untaken_few cache cs,
    )

-- each line has a flag, and no more cells than places
lines_few : (n : ℕ) (t : Bool) (flags map : List ℕ) (w len l : ℕ) → 1 ≤ len → length (up_to (line_words n t flags map w len) l) ≤ l * (len + 1)
unfolding up_to
lines_few n t flags map w len zero h = omega arith
lines_few n t flags map w len (suc l) h =
    omega (
      arith,
      lines_few n t flags map w len l h,
      length-append (up_to (line_words n t flags map w len) l) (line_words n t flags map w len l),
      line_length n t flags map w len l,
      sent_few (get_or flags l 0) len h,
    )

-- lines and their length within a side
area : (t : Bool) (w h side : ℕ) → w ≤ side → h ≤ side → lines_of t w h * (length_of t w h + 1) ≤ side * (side + 1)
area t w h side a b =
    let l : lines_of t w h ≤ side = either_way (λ n. n ≤ side) t w h a b in
    let k : length_of t w h + 1 ≤ side + 1 = either_way (λ n. n + 1 ≤ side + 1) t h w (omega arith) (omega arith) in
    mul-le-mul l k

-- the orientation bit is sent only where both sides are below 64
map_few : (n : ℕ) (t : Bool) (flags map : List ℕ) (w h : ℕ) → 1 ≤ w → w ≤ 64 → 1 ≤ h → h ≤ 64 → length (map_words n t flags map w h) ≤ 4160
unfolding map_words orient_words
map_few n t flags map w h a b c d =
    let lines = up_to (line_words n t flags map w (length_of t w h)) (lines_of t w h) in
    let most : length lines ≤ lines_of t w h * (length_of t w h + 1) =
    lines_few n t flags map w (length_of t w h) (lines_of t w h) (either_way (λ n. 1 ≤ n) t h w c a) in
    let go : (x : Bool) → ltb w 64 && ltb h 64 ≡ x → length (cond x (bypass 1 (bit t) ∷ []) [] ++ lines) ≤ 4160 =
    elim [
      | true ↦ λ e.
          omega (
            arith,
            most,
            area t w h 63 (omega (arith, ltb-true w 64 (and_l (ltb w 64) (ltb h 64) e)))
                (omega (arith, ltb-true h 64 (and_r (ltb w 64) (ltb h 64) e))),
          )
      | false ↦ λ e. omega (arith, most, area t w h 64 b d)
    ] in
    go (ltb w 64 && ltb h 64) refl

pub list_few : (w h bd : ℕ) (cache : List ℕ) (p : Palette) → Accepted w h bd cache p → length (call_list w h bd cache p) ≤ 4234
unfolding call_list cache_ok
list_few w h bd cache p a =
    let f = facts w h bd cache p a in
    omega (
      arith,
      length-append (color_words bd cache p.colors) (map_words (length p.colors) p.transposed p.flags p.map w h),
      colors_few bd cache p.colors,
      f.few,
      leb-true (length cache) 64 a.cache_length,
      map_few (length p.colors) p.transposed p.flags p.map w h f.wide f.wide_most f.high f.high_most,
    )
