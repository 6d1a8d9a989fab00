-- A found map of a size that the block has: what stands stays one, and its map and flags are whole.
use mathlib.Core.Path.{◌≡◌, refl, sym, ap, ◌∙◌}
use mathlib.Core.Bool.{Bool, true, false, cond, false≢true}
use mathlib.Core.List.{List, [], ◌∷◌, map}
use Prim.Native.Nat.{ℕ, ◌*◌, ◌≤◌}
use lib.ListN.{length, replicate, length-replicate}
use lib.Ieee.{Float, binary32, add, mul, le, lt}
use Rattle.lists.proofs.Choice.{either_way}
use Rattle.ieee.specs.Numbers.{nat}
use Rattle.ieee.specs.Bounds.{Under}
use Rattle.ieee.proofs.Bounds.{under_lt}
use Rattle.groups.specs.declared.Histogram.{Histogram}
use Rattle.groups.specs.Groups.{centers_of, groups_of}
use Rattle.groups.proofs.Each.{Each}
use Rattle.scan.specs.Scan.{scan_of}
use Rattle.map_search.specs.Lines.{map_of, Ended}
use Rattle.std.specs.Prelude.{Option, Some, None}
use Rattle.cells.specs.declared.Cost.{Cost}
use Rattle.sizes.specs.declared.Block.{Block}
use Rattle.counts.specs.Counts.{orient_sent}
use Rattle.sizes.specs.Sizes.{head_of, size_of}
use Rattle.sizes.proofs.Levels.{SizeTo}
use Rattle.search.specs.Search.{Standing, none, judged, tried, tried_both, visited}
use Rattle.search.proofs.Lengths.{rest_long}

-- the map of k colours, plain or transposed, under a bound
abbrev pub built : List Float → List Float → Block → Histogram → ℕ → Bool → Float → Ended
built samples costs b h k t bound =
    let scan = scan_of b.width b.height t in
    map_of samples costs (map (nat binary32) (groups_of h k).colors) k b.lambda scan (head_of costs b (centers_of h k)) bound
    (replicate (b.width * b.height) 0) (replicate scan.lines 0)

-- a found map of a size that the block has
pub record Kept (samples costs : List Float) (b : Block) (h : Histogram) (s : Standing) : Type 0 where
  pub two : 2 ≤ s.best.n
  pub eight : s.best.n ≤ 8
  pub few : s.best.n ≤ h.n
  pub colors : s.best.colors ≡ (groups_of h s.best.n).colors
  pub orient : s.best.transposed ≡ true → orient_sent b.width b.height ≡ true
  pub bound : Float
  pub cost : Cost
  -- head and map bits are those of this size and this map
  pub headed : s.best.head ≡ head_of costs b (centers_of h s.best.n)
  pub counted : s.best.map_bits ≡ cost.rate
  pub whole : built samples costs b h s.best.n s.best.transposed bound
      ≡ record { map = s.map; flags = s.flags; result = Some cost }

module _ (samples costs : List Float) (b : Block) (h : Histogram) where
  -- ---- one map of a size, plain or transposed
  module _ (k : ℕ) (t : Bool) (bound : Float) where
    abbrev ended : Ended
    ended = built samples costs b h k t bound

    module _ (has : SizeTo h.n k) (sent : t ≡ true → orient_sent b.width b.height ≡ true) where
      found_kept : (total : Float) (cost : Cost) → ended.result ≡ Some cost → Kept samples costs b h (record {
        best = record {
          total = total;
          n = k;
          colors = (groups_of h k).colors;
          transposed = t;
          head = head_of costs b (centers_of h k);
          map_bits = cost.rate;
        };
        map = ended.map;
        flags = ended.flags;
      })
      found_kept total cost e = record {
        two = has.0;
        eight = has.1;
        few = has.2;
        colors = refl;
        orient = sent;
        bound = bound;
        cost = cost;
        headed = refl;
        counted = refl;
        whole = ap (λ (r : Option Cost). record { map = ended.map; flags = ended.flags; result = r }) e;
      }

      -- what stood, or a found map
      judged_kept : (s : Standing) → Kept samples costs b h s → (r : Option Cost) → ended.result ≡ r
          → Kept samples costs b h (judged b (size_of costs b h k) t s ended.map ended.flags r)
      judged_kept s p None e = p
      judged_kept s p (Some cost) e =
          either_way (Kept samples costs b h) (lt _ s.best.total) _ s (found_kept _ cost e) p

      -- nothing stood, and the map's total is finite
      pub judged_first : (cost : Cost) (A : ℕ)
          → (let all = add binary32 (head_of costs b (centers_of h k)) cost.rate in
          Under (add binary32 cost.dist (mul binary32 b.lambda all)) A)
          → ended.result ≡ Some cost → (r : Option Cost) → r ≡ Some cost
          → Kept samples costs b h (judged b (size_of costs b h k) t none ended.map ended.flags r)
      judged_first cost A u e r i = rw (i, under_lt _ A u) (found_kept _ cost e)

  -- ---- what stands stays found
  tried_kept : (k : ℕ) → SizeTo h.n k → (t : Bool) → (t ≡ true → orient_sent b.width b.height ≡ true)
      → (s : Standing) → Kept samples costs b h s
      → Kept samples costs b h (tried samples costs b (size_of costs b h k) t s)
  unfolding tried
  tried_kept k has t sent s p =
      judged_kept k t s.best.total has sent s p (built samples costs b h k t s.best.total).result refl

  -- the transposed map after the plain one
  pub both_kept : (k : ℕ) → SizeTo h.n k → (s : Standing)
      → Kept samples costs b h (tried samples costs b (size_of costs b h k) false s)
      → Kept samples costs b h (tried_both samples costs b (size_of costs b h k) s)
  unfolding tried_both
  both_kept k has s p = go _ p (orient_sent b.width b.height) refl
    where
      go : (plain : Standing) → Kept samples costs b h plain → (sent : Bool) → orient_sent b.width b.height ≡ sent
          → Kept samples costs b h (cond sent (tried samples costs b (size_of costs b h k) true plain) plain)
      go plain q true e = tried_kept k has true (λ f. e) plain q
      go plain q false e = q

  pub visited_kept : (ks : List ℕ) → Each (SizeTo h.n) ks → (s : Standing) → Kept samples costs b h s
      → Kept samples costs b h (visited samples costs b h ks s)
  unfolding visited
  visited_kept [] a s p = p
  visited_kept (k ∷ ks) a s p =
      let plain = tried_kept k a.0 false (λ e. absurd (false≢true e)) s p in
      either_way (Kept samples costs b h) (le s.best.total (size_of costs b h k).lb) s _ p
      (visited_kept ks a.1 (tried_both samples costs b (size_of costs b h k) s) (both_kept k a.0 s plain))

-- ---- the map and the flags that stand are whole
module _ {samples costs : List Float} {b : Block} {h : Histogram} {s : Standing} (kept : Kept samples costs b h s) where
  whole_long : (length s.map ≡ b.width * b.height)
      × (length s.flags ≡ (scan_of b.width b.height s.best.transposed).lines)
  whole_long =
      let scan = scan_of b.width b.height s.best.transposed in
      let long = rest_long samples costs (map (nat binary32) (groups_of h s.best.n).colors) s.best.n b.lambda scan
      (head_of costs b (centers_of h s.best.n)) kept.bound scan.lines 0 _ in (
        ap (λ (e : Ended). length e.map) (sym kept.whole) ∙ long.0 ∙ length-replicate (b.width * b.height) 0,
        ap (λ (e : Ended). length e.flags) (sym kept.whole) ∙ long.1 ∙ length-replicate scan.lines 0,
      )

  pub kept_cells : length s.map ≡ b.width * b.height
  kept_cells = whole_long.0

  pub kept_flags : length s.flags ≡ (scan_of b.width b.height s.best.transposed).lines
  kept_flags = whole_long.1
