-- Of a block whose tests have passed: its levels, and each size's colours, which are finite as f32.
use mathlib.Core.Path.{◌≡◌, refl}
use mathlib.Core.Bool.{true}
use mathlib.Core.List.{List, [], ◌∷◌, map}
use Prim.Native.Nat.{ℕ, zero, suc, ◌-◌, ◌^◌, ◌≤◌, ◌<◌}
use native.Mathlib.Nat.{le_trans, mul-le-mul}
use native.Mathlib.Omega.{arith}
use lib.Dec.{leb, lit≤}
use lib.ListN.{length, get_or, replicate}
use lib.Seq.{get_or-take}
use lib.Ieee.{Float, nan, binary32}
use borrow.Author.Tests.{leb-true}
use Rattle.lists.proofs.Counted.{all_in_at}
use Rattle.lists.proofs.Written.{length_written}
use Rattle.ieee.specs.Numbers.{nat}
use Rattle.ieee.specs.Bounds.{Within}
use Rattle.ieee.proofs.Bounds.{nat_within}
use Rattle.literals.specs.Literals.{levels_ok}
use Rattle.samples.specs.Samples.{level_of}
use Rattle.groups.specs.declared.Histogram.{Histogram}
use Rattle.groups.specs.Histogram.{IsHistogram, levels_of}
use Rattle.groups.specs.Groups.{centers_of, groups_of}
use Rattle.groups.proofs.Block.{Cells, cells_of, level_top, histogram_is}
use Rattle.groups.proofs.Colors.{centers_length, centers_top, colors_take}
use Rattle.sizes.specs.declared.Block.{Block}
use Rattle.sizes.proofs.Levels.{SizeTo}
use Rattle.sizes.proofs.Parts.{centers_ok}
use Rattle.search.specs.Search.{histogram_in}
use Rattle.search.proofs.Passed.{Ready}

-- the levels of a block, in ascending order
abbrev pub levels_in : List Float → List ℕ
levels_in samples = levels_of (map level_of samples)

map_at : (xs : List ℕ) (i : ℕ) → i < length xs → get_or (map (nat binary32) xs) i nan ≡ nat binary32 (get_or xs i 0)
map_at [] i l = absurd (omega arith)
map_at (x ∷ xs) zero l = refl
map_at (x ∷ xs) (suc i) l = map_at xs i (omega arith)

module _ {samples costs : List Float} {b : Block} {room lineRoom : ℕ} (ready : Ready samples costs b room lineRoom)
    {h : Histogram} (is : h ≡ histogram_in samples) (few : h.n ≤ 32) where
  counted : Cells (2 ^ b.bd - 1) (map level_of samples)
  counted =
      let small = le_trans (mul-le-mul ready.wide_most ready.high_most) (lit≤ tt) in
      cells_of b.bd samples ready.deep_most (rw ready.count small) ready.sampled

  pub levels_top : (i : ℕ) → get_or (levels_in samples) i 0 ≤ 2 ^ b.bd - 1
  levels_top = level_top (2 ^ b.bd - 1) (map level_of samples) counted

  pub is_histogram : IsHistogram (levels_in samples) h
  is_histogram = rw is (histogram_is (2 ^ b.bd - 1) (map level_of samples) counted (rw is at few))

  -- of a size that the block has
  module _ (k : ℕ) (has : SizeTo h.n k) where
    pub centers_count : length (centers_of h k) ≡ k
    centers_count = centers_length (levels_in samples) h is_histogram k (omega (arith, has.0)) has.2

    pub levels_ok_holds : levels_ok b.bd (centers_of h k) ≡ true
    levels_ok_holds = centers_ok (levels_in samples) h is_histogram b.bd k (omega (arith, has.0)) has.2 levels_top

    color_most : (i : ℕ) → i < k → get_or (groups_of h k).colors i 0 ≤ 4095
    color_most i l =
        let some : 0 < k = omega arith in
        let inside : i < length (centers_of h k) = omega (arith, centers_count) in
        let taken = colors_take (levels_in samples) h is_histogram k some has.2 has.1 in
        let all = centers_top (levels_in samples) h is_histogram k some has.2 4095 is_histogram.top in
        rw (← get_or-take k (groups_of h k).colors i 0 l, taken)
        (leb-true (get_or (centers_of h k) i 0) 4095 (all_in_at (λ x. leb x 4095) (centers_of h k) all i inside))

    pub color_within : (i : ℕ) → i < k → Within (get_or (map (nat binary32) (groups_of h k).colors) i nan) 4095
    color_within i l =
        let eight : length (groups_of h k).colors ≡ 8 = length_written (replicate 8 0) 0 (centers_of h k) in
        rw (map_at (groups_of h k).colors i (omega (arith, eight, has.1)))
        (nat_within binary32 (get_or (groups_of h k).colors i 0) 4095 (color_most i l) (lit≤ tt))
