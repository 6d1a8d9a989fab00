-- Document 01, 'Numbers returned', 1, 2 and 11 to 15, and 'How far the wording reaches', 3: when a palette is accepted.
use Rattle.std.specs.Prelude.{ℕ, zero, suc, ◌*◌, ◌≡◌, Bool, true, false, cond, not, ◌&&◌, ◌||◌, List, eqb, leb, ltb, length, get_or}
use Rattle.lists.specs.Counted.{within, all_below, all_in}
use Rattle.counts.specs.Counts.{orient_sent}
use Rattle.context.specs.Map.{line_cell, lines_of, length_of}
use Rattle.literals.specs.Literals.{levels_ok}
use Rattle.accept.specs.Palette.{Palette}

-- 1: the sides
unfoldable pub sides_ok : ℕ → ℕ → Bool
sides_ok w h = within 1 64 w && within 1 64 h

-- 2: the depth
unfoldable pub depth_ok : ℕ → Bool
depth_ok bd = within 8 12 bd

-- 11: two to eight colours, strictly ascending, none above the top level
unfoldable pub colors_ok : ℕ → List ℕ → Bool
colors_ok bd cs = within 2 8 (length cs) && levels_ok bd cs

-- 12: transposed only if both sides are below 64
unfoldable pub orient_ok : ℕ → ℕ → Bool → Bool
orient_ok w h t = not t || orient_sent w h

-- 13: the cache's length
unfoldable pub cache_ok : ℕ → Bool
cache_ok cached = leb cached 64

-- 14: one index for each cell, one flag for each line
unfoldable pub counts_ok : ℕ → ℕ → Palette → Bool
counts_ok w h p = eqb (length p.map) (w * h) && eqb (length p.flags) (lines_of p.transposed w h)

-- 15: a line is as its flag says: 1 constant, 2 a copy of the line before, of which the first has none
unfoldable pub line_ok : ℕ → (ℕ → ℕ → ℕ) → ℕ → ℕ → Bool
line_ok zero at len l = true
line_ok (suc zero) at len l = all_below (λ a. eqb (at l a) (at l 0)) len
line_ok (suc (suc zero)) at len zero = false
line_ok (suc (suc zero)) at len (suc k) = all_below (λ a. eqb (at (suc k) a) (at k a)) len
line_ok (suc (suc (suc f))) at len l = false

-- 15: each index below n, each line as its flag says
unfoldable pub map_ok : ℕ → ℕ → Palette → Bool
map_ok w h p =
    let t = p.transposed in
    all_in (λ i. ltb i (length p.colors)) p.map
    && all_below (λ l. line_ok (get_or p.flags l 0) (line_cell t p.map w) (length_of t w h) l) (lines_of t w h)

-- the first of 1, 2 and 11 to 15 that applies, or 0; `cached` is the cache's length
unfoldable pub refusal : ℕ → ℕ → ℕ → ℕ → Palette → ℕ
refusal w h bd cached p =
    cond (not (sides_ok w h)) 1
    (cond (not (depth_ok bd)) 2
    (cond (not (colors_ok bd p.colors)) 11
    (cond (not (orient_ok w h p.transposed)) 12
    (cond (not (cache_ok cached)) 13
    (cond (not (counts_ok w h p)) 14
    (cond (not (map_ok w h p)) 15 0))))))

-- none of them applies
pub record Accepted (w h bd : ℕ) (cache : List ℕ) (p : Palette) : Type 0 where
  pub sides : sides_ok w h ≡ true
  pub depth : depth_ok bd ≡ true
  pub colors : colors_ok bd p.colors ≡ true
  pub orient : orient_ok w h p.transposed ≡ true
  pub cache_length : cache_ok (length cache) ≡ true
  pub counts : counts_ok w h p ≡ true
  pub map : map_ok w h p ≡ true
