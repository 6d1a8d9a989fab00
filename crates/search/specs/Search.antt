-- Document 01, 'Sizes' and 'Numbers returned': the search of a block.
use Rattle.std.specs.Prelude.{◌≡◌, Bool, true, false, cond, not, ◌||◌, List, [], ◌∷◌, map, ℕ, ◌*◌, eqb, ltb, leb, length, replicate, Float, Option, Some, None}
use Rattle.std.specs.Float.{inf, binary32}
use Rattle.std.specs.Float.Ieee.{add, mul, le, lt, of_bits}
use Rattle.lists.specs.Written.{front}
use Rattle.ieee.specs.Numbers.{nat}
use Rattle.accept.specs.Accepted.{sides_ok, depth_ok}
use Rattle.samples.specs.Samples.{lambda_ok, costs_ok, samples_ok, level_of}
use Rattle.groups.specs.declared.Histogram.{Histogram}
use Rattle.groups.specs.Histogram.{histogram_of}
use Rattle.cells.specs.declared.Cost.{Cost}
use Rattle.scan.specs.Scan.{scan_of}
use Rattle.map_search.specs.Lines.{Ended, map_of}
use Rattle.sizes.specs.declared.Block.{Block}
use Rattle.sizes.specs.declared.Size.{Size}
use Rattle.counts.specs.Counts.{orient_sent}
use Rattle.sizes.specs.Sizes.{size_of}
use Rattle.sizes.specs.Order.{sizes_to, in_order}
use Rattle.accept.specs.declared.Palette.{Palette}
use Rattle.accept.specs.Answer.{rooms_ok, refused_by}
use Rattle.search.specs.declared.Best.{Best}

-- the best map so far; while there is none, its total is +infinity
pub record Standing : Type 0 where
  pub best : Best
  pub map : List ℕ
  pub flags : List ℕ

abbrev pub none : Standing
none =
    let zero = of_bits binary32 0 in
    let best : Best = record { total = inf false; n = 0; colors = replicate 8 0; transposed = false; head = zero; map_bits = zero } in
    record { best = best; map = []; flags = [] }

-- a map stands only if its total is strictly lower
abbrev pub lower : Standing → Standing → Standing
lower s next = cond (lt next.best.total s.best.total) next s

-- what stands after a map of size z: a found one only if its total is strictly lower
abbrev pub judged : Block → Size → Bool → Standing → List ℕ → List ℕ → Option Cost → Standing
judged b z t s map flags None = s
judged b z t s map flags (Some cost) =
    let all = add binary32 z.head cost.rate in
    let total = add binary32 cost.dist (mul binary32 b.lambda all) in
    let best : Best = record { total = total; n = z.n; colors = z.colors; transposed = t; head = z.head; map_bits = cost.rate } in
    lower s (record { best = best; map = map; flags = flags })

-- the levels of a block
abbrev pub histogram_in : List Float → Histogram
histogram_in samples = histogram_of (map level_of samples)

module _ (samples costs : List Float) (b : Block) where
  -- the map of a size in one orientation, up to a bound; cells and flags start as zeros
  abbrev pub map_in : Size → Bool → Float → Ended
  map_in z t bound =
      let scan = scan_of b.width b.height t in
      let colours = map (nat binary32) z.colors in
      let zeros : List ℕ = replicate (b.width * b.height) 0 in
      map_of samples costs colours z.n b.lambda scan z.head bound zeros (replicate scan.lines 0)

  -- one orientation of a size; the bound is the best total so far
  unfoldable pub tried : Size → Bool → Standing → Standing
  tried z t s =
      let e = map_in z t s.best.total in
      judged b z t s e.map e.flags e.result

  -- plain before transposed, the latter only if an orientation bit is sent
  unfoldable pub tried_both : Size → Standing → Standing
  tried_both z s = cond (orient_sent b.width b.height) (tried z true (tried z false s)) (tried z false s)

  module _ (h : Histogram) where
    -- sizes in turn, up to an lb not below the best
    unfoldable pub visited : List ℕ → Standing → Standing
    visited [] s = s
    visited (k ∷ ks) s =
        let z = size_of costs b h k in
        cond (le s.best.total z.lb) s (visited ks (tried_both z s))

    -- all sizes, in their order
    unfoldable pub searched : Standing
    searched = visited (in_order (λ k. (size_of costs b h k).lb) (sizes_to h.n)) none

  -- of the whole block
  abbrev pub found_in : Standing
  found_in = searched (histogram_in samples)

-- a side of 16 or more
abbrev pub large_ok : ℕ → ℕ → Bool
large_ok w h = leb 16 w || leb 16 h

-- the first of 1 to 8 that applies, or 0; for a map of so many cells and so many flags
unfoldable pub fault_of : List Float → List Float → Block → ℕ → ℕ → ℕ
fault_of samples costs b cells lines =
    let w = b.width in
    let h = b.height in
    cond (not (sides_ok w h)) 1
    (cond (not (depth_ok b.bd)) 2
    (cond (not (eqb (length samples) (w * h))) 3
    (cond (not (lambda_ok b.lambda)) 4
    (cond (not (costs_ok costs)) 5
    (cond (not (samples_ok b.bd samples)) 6
    (cond (not (rooms_ok w h cells lines)) 7
    (cond (not (large_ok w h)) 8 0)))))))

-- 9: fewer than 2 levels; 10: more than 32
abbrev pub levels_fault : ℕ → ℕ
levels_fault levels = cond (ltb levels 2) 9 (cond (ltb 32 levels) 10 0)

-- the first of 1 to 10 that applies, or 0
unfoldable pub search_number : List Float → List Float → Block → ℕ → ℕ → ℕ
search_number samples costs b cells lines =
    let fault = fault_of samples costs b cells lines in
    cond (eqb fault 0) (levels_fault (histogram_in samples).n) fault

-- document 02, L8: head and map bits are kept apart
abbrev pub palette_by : Best → Palette
palette_by b =
    record { number = 0; n = b.n; colors = b.colors; transposed = b.transposed; head = b.head; map_bits = b.map_bits }

-- the bit estimate is (head + map bits) × 3
abbrev pub estimate_of : Float → Float → Float
estimate_of head mapBits = mul binary32 (add binary32 head mapBits) (nat binary32 3)

-- the answer for a map of so many cells and so many flags
abbrev pub answer_of : List Float → List Float → Block → ℕ → ℕ → Palette
answer_of samples costs b cells lines =
    let number = search_number samples costs b cells lines in
    cond (eqb number 0) (palette_by (found_in samples costs b).best) (refused_by number)

-- what `search` answers, and both buffers before and after: on 0 cells and flags stand from the front, else nothing is written
pub record Searches (samples costs : List Float) (b : Block) (map₀ map flags₀ flags : List ℕ) (r : Palette) : Type 0 where
  pub answer : r ≡ answer_of samples costs b (length map₀) (length flags₀)
  pub cells : map ≡ cond (eqb r.number 0) (front (found_in samples costs b).map map₀) map₀
  pub signs : flags ≡ cond (eqb r.number 0) (front (found_in samples costs b).flags flags₀) flags₀
