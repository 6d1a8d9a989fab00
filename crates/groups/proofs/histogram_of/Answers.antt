use mathlib.Core.Path.{◌≡◌, sym, ◌∙◌, ap}
use mathlib.Core.List.{List, map}
use Prim.Native.Nat.{ℕ, ◌+◌, ◌-◌, ◌^◌, ◌≤◌, ◌<◌}
use native.Mathlib.Omega.{arith}
use lib.Pow.{pow_mono, pow_pos}
use lib.ListN.{get_or, take, length, length-map}
use lib.Seq.{get_or-take, length-take-le}
use Rattle.samples.proofs.Ranges.{sample_within_4095, level_in}
use Rattle.samples.specs.Samples.{level_of}
use Rattle.groups.specs.Histogram.{occurs, histogram_of, gathered}
use Rattle.groups.proofs.Levels.{occurs_le, gathered_is, none_occurs}
use Rattle.groups.proofs.histogram_of.Goals as goal

pub count_levels-requires-clause-samples_len_bound : goal.count_levels-requires-clause-samples_len_bound
count_levels-requires-clause-samples_len_bound c =
    let p = c.requires in
    (p.2, λ i h. sample_within_4095 c.args.bd c.args.samples.now p.1 p.3 i h)

-- how many levels the depth has
few_levels : (b top : ℕ) → b ≤ 12 → top ≡ 2 ^ b - 1 → top + 1 ≤ 4096
few_levels b top h t = let p : 2 ^ b ≤ 4096 = pow_mono h in omega (arith, pow_pos b)

-- the counts of so many levels
length_levels : (b top from : ℕ) (counts : List ℕ) → b ≤ 12 → top ≡ 2 ^ b - 1 → from ≡ top → length counts ≡ 4096
    → length (take (from + 1) counts) ≡ from + 1
length_levels b top from counts h t f e =
    length-take-le (from + 1) counts (omega (arith, few_levels b top h t))

pub slice_bounds-counts-end : goal.slice_bounds-counts-end
slice_bounds-counts-end c = omega (arith, few_levels c.args.bd c.top_level.result c.requires.1 c.top_level.ensures)

pub slice_bounds-gather-end : goal.slice_bounds-gather-end
slice_bounds-gather-end c =
    let counted = c.count_levels in
    sym (length_levels c.args.bd c.top_level.result c.from.result counted.new.counts c.requires.1 c.top_level.ensures
    c.from.ensures counted.array_long)

pub gather-requires : goal.gather-requires
gather-requires c =
    let m = c.from.result + 1 in
    let counted = c.count_levels in
    let counts = counted.new.counts in
    let few = few_levels c.args.bd c.top_level.result c.requires.1 c.top_level.ensures in
    let len : length (take m counts) ≡ m =
    length_levels c.args.bd c.top_level.result c.from.result counts c.requires.1 c.top_level.ensures c.from.ensures
    counted.array_long in
    let n = length-map c.args.samples.now level_of in
    let short = c.requires.2 in (
      omega (arith, few),
      λ v h. omega (
        arith,
        get_or-take m counts v 0 (omega arith),
        counted.ensures v (omega (arith, few)),
        occurs_le (map level_of c.args.samples.now) v,
      ),
    )

pub returns : goal.returns
unfolding histogram_of
returns c =
    let m = c.from.result + 1 in
    let few = few_levels c.args.bd c.top_level.result c.requires.1 c.top_level.ensures in
    let s = c.args.samples.now in
    let xs = map level_of s in
    let counted = c.count_levels in
    let counts = counted.new.counts in
    let front = λ (v : ℕ). get_or (take m counts) v 0 in
    let below : (i : ℕ) → i < length xs → get_or xs i 0 < m = λ i k.
    let l = level_in c.args.bd s c.requires.1 c.requires.3 i (omega (arith, length-map s level_of)) in
    omega (arith, l, c.top_level.ensures) in
    let all : m + (4096 - m) ≡ 4096 = omega (arith, few) in
    c.gather.ensures
    ∙ ap (gathered front) (length_levels c.args.bd c.top_level.result c.from.result counts c.requires.1
    c.top_level.ensures c.from.ensures counted.array_long)
    ∙ gathered_is front (occurs xs) m (4096 - m)
    (λ v h. get_or-take m counts v 0 h ∙ counted.ensures v (omega (arith, few)))
    (λ v h. none_occurs xs m v below h)
    ∙ ap (gathered (occurs xs)) all
