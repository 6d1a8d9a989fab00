-- Of two accepted palettes of one width, height, depth and cache, the call list of one begins that of the other exactly when
-- they are the same. Assumes nothing.
use mathlib.Core.Path.{◌≡◌, refl, sym, ◌∙◌}
use mathlib.Core.Bool.{Bool, true, false, cond, not, ◌||◌}
use mathlib.Core.List.{List, [], ◌∷◌}
use Prim.Native.Nat.{ℕ}
use Rattle.counts.specs.Counts.{orient_sent}
use lib.ListN.{length}
use Rattle.lists.specs.Counted.{bit}
use Rattle.lists.proofs.Counted.{bit_injective}
use Rattle.context.specs.Map.{lines_of, length_of}
use Rattle.literals.specs.Words.{bypass}
use Rattle.literals.proofs.Words.{word_injective}
use Rattle.literals.proofs.Levels.{levels_ascend}
use Rattle.accept.specs.Palette.{Palette}
use Rattle.accept.specs.Accepted.{orient_ok, Accepted}
use Rattle.accept.proofs.Accepted.{Facts, facts, line_index}
use Rattle.emit.specs.Map.{orient_words, map_words}
use Rattle.listing.specs.Listing.{call_list, Same, BeginsExactlySame}
use Rattle.listing.proofs.Splits.{Splits, nil, cons, weaken, then, tell, begins_same}
use Rattle.listing.proofs.Colors.{color_splits}
use Rattle.listing.proofs.Lines.{Fits, lines_splits}

-- the orientation's word, or, where a side is 64, that neither is transposed
orient_splits : (w h : ℕ) (s t : Bool) → orient_ok w h s ≡ true → orient_ok w h t ≡ true
    → Splits (orient_words w h s) (orient_words w h t) (s ≡ t)
unfolding orient_ok orient_words
orient_splits w h s t a b = go (orient_sent w h) s t a b
  where
    plain : (s : Bool) → not s || false ≡ true → s ≡ false
    plain true a = sym a
    plain false a = refl

    go : (c s t : Bool) → not s || c ≡ true → not t || c ≡ true
        → Splits (cond c (bypass 1 (bit s) ∷ []) []) (cond c (bypass 1 (bit t) ∷ []) []) (s ≡ t)
    go true s t a b = cons (λ e. nil (bit_injective s t (word_injective 1 1 1 _ _ refl e)))
    go false s t a b = nil (plain s a ∙ sym (plain t b))

pub fits : (w h bd : ℕ) (p : Palette) → Facts w h bd p
    → Fits p.transposed w (lines_of p.transposed w h) (length_of p.transposed w h) (length p.colors) p.flags p.map
fits w h bd p f = record { index = line_index w h bd p f; line = f.line }

palette_splits : (w h bd : ℕ) (cache : List ℕ) (p q : Palette) → Accepted w h bd cache p → Accepted w h bd cache q
    → Splits (call_list w h bd cache p) (call_list w h bd cache q) (Same p q)
unfolding call_list map_words
palette_splits w h bd cache p q a b =
    let f = facts w h bd cache p a in
    let g = facts w h bd cache q b in
    let pa = levels_ascend bd p.colors f.levels in
    let qa = levels_ascend bd q.colors g.levels in
    then (color_splits bd cache p.colors q.colors pa qa f.enough g.enough) λ c.
    then (orient_splits w h p.transposed q.transposed a.orient b.orient) λ t.
    weaken {K = (p.flags ≡ q.flags) × (p.map ≡ q.map)} (λ k. record { colors = c; transposed = t; flags = k.0; map = k.1 })
    (rw (← t, ← c)
    (lines_splits w h _ p.transposed p.flags q.flags p.map q.map f.wide f.high f.map_length g.map_length
    f.flag_length (rw (← t) at g.flag_length) (fits w h bd p f) (rw (← t, ← c) at (fits w h bd q g))))

same_calls : (w h bd : ℕ) (cache : List ℕ) (p q : Palette) → Same p q → call_list w h bd cache p ≡ call_list w h bd cache q
unfolding call_list
same_calls w h bd cache p q s = rw (s.colors, s.transposed, s.flags, s.map)

pub begins_exactly_same : BeginsExactlySame
begins_exactly_same w h bd cache p q a b =
    (tell (palette_splits w h bd cache p q a b), λ s. begins_same _ _ (same_calls w h bd cache p q s))
