use mathlib.Core.Path.{◌≡◌, refl, sym, ◌∙◌}
use mathlib.Core.List.{List, [], map}
use Prim.Native.Nat.{ℕ, ◌+◌, ◌≤◌, ◌<◌}
use native.Mathlib.Numerals.{add-one}
use native.Mathlib.Nat.{zero-add, add-zero}
use native.Mathlib.Omega.{arith}
use lib.Dec.{eqb}
use lib.ListN.{get_or, drop, length, length-map, get_or-replicate, drop_of_length-le}
use lib.Seq.{drop-cons}
use lib.Ieee.{Float, nan}
use Rattle.lists.specs.Counted.{bit}
use Rattle.ieee.specs.Bounds.{Within}
use Rattle.samples.proofs.Ranges.{level_within}
use Rattle.samples.specs.Samples.{level_of}
use Rattle.groups.specs.Histogram.{occurs}
use Rattle.groups.proofs.Levels.{occurs_le, counted}
use Rattle.groups.proofs.count_levels.Goals as goal

level_small : (x : Float) (r : ℕ) → Within x 4095 → r ≡ level_of x → r < 4096
level_small x r w e = omega (arith, e, level_within x 4095 w.0)

-- the cells left, of which the first has the level x
next_cell : (xs : List Float) (i x v : ℕ) → i < length xs → x ≡ level_of (get_or xs i nan)
    → occurs (map level_of (drop i xs)) v ≡ bit (eqb x v) + occurs (map level_of (drop (i + 1) xs)) v
unfolding occurs
next_cell xs i x v h e = rw (drop-cons xs i nan h, e, add-one) refl

-- no count is above the number of cells
few : (xs : List Float) (n left v : ℕ) → length xs ≤ 4096 → n + left ≡ occurs (map level_of xs) v → n ≤ 4096
few xs n left v short e =
    let m = length-map xs level_of in
    omega (arith, occurs_le (map level_of xs) v, m, e, short)

pub loop-x-init : goal.loop-x-init
loop-x-init c = λ v h. rw (c.requires.counts_value, get_or-replicate {A = ℕ} 4096 v 0 0 h, zero-add) refl

pub overflow_add-counts : goal.overflow_add-counts
overflow_add-counts c =
    let xs = c.args.samples.now in
    let l = c.loop-x in
    let r = c.from-v.result in
    let w = c.requires.samples_len_bound.1 l.x-index c.loop-x-test.true in
    let s = level_small (get_or xs l.x-index nan) r w (c.from-v.ensures ∙ c.level_of.ensures) in
    omega (
      arith,
      few xs (get_or l.counts r 0) (occurs (map level_of (drop l.x-index xs)) r) r
          c.requires.samples_len_bound.0 (l.invariant r s),
    )

pub loop-x-preserved : goal.loop-x-preserved
loop-x-preserved c =
    let xs = c.args.samples.now in
    let l = c.loop-x in
    let i = l.x-index in
    let x = c.from-v.result in
    let is : x ≡ level_of (get_or xs i nan) = c.from-v.ensures ∙ c.level_of.ensures in
    let w = c.requires.samples_len_bound.1 i c.loop-x-test.true in
    let s = level_small (get_or xs i nan) x w is in
    let in-counts : x < length l.counts = omega arith in
    λ v h. omega (
      arith,
      counted l.counts x v in-counts,
      next_cell xs i x v c.loop-x-test.true is,
      l.invariant v h,
    )

pub returns : goal.returns
unfolding occurs
returns c =
    let l = c.loop-x in
    let xs = c.args.samples.now in
    let e : drop l.x-index xs ≡ [] = drop_of_length-le xs {i = l.x-index} (omega arith) in
    λ v h. sym (add-zero _) ∙ (rw e at (l.invariant v h))
