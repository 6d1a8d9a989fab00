-- Once the tests have passed, search finds: the first size's plain map is found, as its bound is +infinity, and what
-- stands stays found.
use mathlib.Core.Path.{◌≡◌}
use mathlib.Core.Bool.{Bool, false, false≢true}
use mathlib.Core.List.{List, map}
use Prim.Native.Nat.{ℕ, ◌*◌, ◌^◌, ◌≤◌, ◌<◌}
use native.Mathlib.Nat.{mul-le-mul_right}
use native.Mathlib.Omega.{arith}
use lib.Dec.{lit<}
use lib.ListN.{get_or, replicate}
use lib.Ieee.{Float, nan, inf, binary32, add, mul}
use Rattle.ieee.specs.Numbers.{nat}
use Rattle.ieee.specs.Bounds.{Under, Within}
use Rattle.ieee.proofs.Bounds.{rep_scaled, add_under, mul_under, under_mono, under_bound}
use Rattle.samples.proofs.Ranges.{lambda_within, costs_within, sample_within_4095}
use Rattle.groups.specs.declared.Histogram.{Histogram}
use Rattle.groups.specs.Groups.{centers_of, groups_of}
use Rattle.groups.proofs.Each.{Each}
use Rattle.scan.specs.Scan.{scan_of, Sound}
use Rattle.std.specs.Prelude.{Some}
use Rattle.cells.specs.declared.Cost.{Cost}
use Rattle.map_search.proofs.WalkBounds.{always_found, found_in_bounds}
use Rattle.scan.proofs.Scans.{scan_sound}
use Rattle.sizes.specs.declared.Block.{Block}
use Rattle.sizes.specs.Sizes.{head_of, size_of}
use Rattle.sizes.proofs.Levels.{SizeTo, order_each, order_some}
use Rattle.search.specs.Search.{histogram_in, none, tried, tried_both, visited, searched}
use Rattle.search.proofs.Passed.{Ready}
use Rattle.lists.proofs.Zeros.{zeros_below}
use Rattle.search.proofs.Colors.{color_within}
use Rattle.search.proofs.Heads.{head_under, lb_under}
use Rattle.search.proofs.Kept.{Kept, built, judged_first, both_kept, visited_kept}

-- the total of a found map
total_under : (error lambda head bits : Float) (lines : ℕ) → lines ≤ 64 → Under error (lines * 2 ^ 32)
    → Under lambda (2 ^ 20) → Under head (2 ^ 9) → Under bits (lines * 2 ^ 12)
    → Under (add binary32 error (mul binary32 lambda (add binary32 head bits))) (1025 * 2 ^ 29)
total_under error lambda head bits lines few e l d c =
    let sum = add binary32 head bits in
    let e' = under_mono error (lines * 2 ^ 32) (2 ^ 38) (mul-le-mul_right (2 ^ 32) few) e in
    let c' = under_mono bits (lines * 2 ^ 12) (2 ^ 18) (mul-le-mul_right (2 ^ 12) few) c in
    let u = add_under binary32 head bits (2 ^ 9) (2 ^ 18) d c' (rep_scaled binary32 513 9 (lit< tt) (lit< tt)) in
    let held = rep_scaled binary32 513 29 (lit< tt) (lit< tt) in
    let v = mul_under binary32 lambda sum (2 ^ 20) (513 * 2 ^ 9) l u held in
    add_under binary32 error (mul binary32 lambda sum) (2 ^ 38) (513 * 2 ^ 29) e' v
    (rep_scaled binary32 1025 29 (lit< tt) (lit< tt))

module _ {samples costs : List Float} {b : Block} {room lineRoom : ℕ} (ready : Ready samples costs b room lineRoom)
    {h : Histogram} (is : h ≡ histogram_in samples) (levels : 2 ≤ h.n) (few : h.n ≤ 32) where
  abbrev cells : ℕ
  cells = b.width * b.height

  sample_within : (i : ℕ) → i < cells → Within (get_or samples i nan) 4095
  sample_within i l = sample_within_4095 b.bd samples ready.deep_most ready.sampled i (omega (arith, ready.count))

  sound : (t : Bool) → Sound (scan_of b.width b.height t) cells
  sound t = scan_sound b.width b.height t ready.wide ready.wide_most ready.high ready.high_most

  lambda_under : Under b.lambda (2 ^ 20)
  lambda_under = (lambda_within b.lambda ready.weight).0

  -- of a size that the block has
  module _ (k : ℕ) (has : SizeTo h.n k) where
    abbrev colours : List Float
    colours = map (nat binary32) (groups_of h k).colors

    abbrev head : Float
    head = head_of costs b (centers_of h k)

    head_low : Under head (2 ^ 9)
    head_low = head_under ready is few k has

    -- no total is infinite or NaN: of any size that the block has, in either orientation, under any bound
    pub total_finite : (t : Bool) (bound : Float) (cost : Cost) → (built samples costs b h k t bound).result ≡ Some cost
        → Under (add binary32 cost.dist (mul binary32 b.lambda (add binary32 head cost.rate))) (1025 * 2 ^ 29)
    total_finite t bound cost found =
        let scan = scan_of b.width b.height t in
        let bounds = found_in_bounds samples costs colours k b.lambda scan cells (sound t) has.0 has.1 sample_within
        (color_within ready is few k has) (costs_within costs ready.priced) head lambda_under head_low bound
        (replicate cells 0) (replicate scan.lines 0) cost (λ i. zeros_below cells k i (omega (arith, has.0))) found in
        total_under cost.dist b.lambda head cost.rate scan.lines (sound t).few bounds.0.0 lambda_under head_low bounds.1.0

    -- its plain map stands, where none stood
    first_kept : Kept samples costs b h (tried samples costs b (size_of costs b h k) false none)
    unfolding tried
    first_kept =
        let scan = scan_of b.width b.height false in
        let found = always_found samples costs colours k b.lambda scan cells (sound false) has.0 has.1 sample_within
        (color_within ready is few k has) (costs_within costs ready.priced) head lambda_under head_low
        (replicate cells 0) (replicate scan.lines 0) (λ i. zeros_below cells k i (omega (arith, has.0))) in
        let total = total_finite false (inf false) found.cost found.is in
        judged_first samples costs b h k false (inf false) has (λ t. absurd (false≢true t)) found.cost
        (1025 * 2 ^ 29) total found.is _ found.is

  -- what stands after all sizes is a found map
  pub finds : Kept samples costs b h (searched samples costs b h)
  unfolding searched visited
  finds =
      let lb : ℕ → Float = λ k. (size_of costs b h k).lb in
      let some = order_some h.n lb levels in
      let first = some.0 in
      let rest = some.1 in
      let all : SizeTo h.n first × Each (SizeTo h.n) rest = rw some.2 at (order_each h.n lb) in
      let has = all.0 in
      rw (some.2, under_bound (lb first) _ (lb_under ready is few first has))
      (visited_kept samples costs b h rest all.1 (tried_both samples costs b (size_of costs b h first) none)
      (both_kept samples costs b h first has none (first_kept first has)))
