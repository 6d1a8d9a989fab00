-- The walk over the sizes: what stands, and that the sizes that are left lead to the whole. Assumes nothing.
use mathlib.Core.Path.{◌≡◌, refl, sym, ap, ◌∙◌}
use mathlib.Core.Bool.{Bool, true, false}
use mathlib.Core.List.{List, ◌∷◌}
use Prim.Native.Nat.{ℕ, ◌≤◌, ◌<◌}
use lib.ListN.{length, get_or, set}
use lib.Ieee.{Float, nan, le}
use Rattle.groups.specs.declared.Histogram.{Histogram}
use Rattle.groups.proofs.Each.{Each}
use Rattle.sizes.specs.declared.Block.{Block}
use Rattle.sizes.specs.declared.Size.{Size}
use Rattle.sizes.specs.Sizes.{size_of}
use Rattle.sizes.specs.Order.{sizes_to, ordered, in_order}
use Rattle.sizes.proofs.Levels.{SizeTo, sizes_each, order_same}
use Rattle.sizes.proofs.Open.{opened, closed_each, next, next_none, next_each, next_then, next_fewer}
use Rattle.search.specs.declared.BestMap.{BestMap}
use Rattle.std.specs.Prelude.{None, Some}
use Rattle.search.specs.Search.{Standing, none, tried_both, visited, searched}
use Rattle.search.specs.Steps.{Stands}

-- lbs has each size's `lb`
abbrev pub Bounds : List Float → Block → Histogram → List Float → Type 0
Bounds costs b h lbs = (k : ℕ) → 2 ≤ k → k ≤ 8 → k ≤ h.n → get_or lbs k nan ≡ (size_of costs b h k).lb

-- the sizes that are left; what stands; and where they lead
pub record Walking (samples costs : List Float) (b : Block) (h : Histogram) (lbs : List Float) (left : List Bool) (kept : BestMap)
    : Type 0 where
  pub sizes : Each (SizeTo h.n) (opened left)
  pub standing : Standing
  pub stands : Stands standing kept
  pub whole : visited samples costs b h (in_order (λ j. get_or lbs j nan) (opened left)) standing ≡ searched samples costs b h

module _ (samples costs : List Float) (b : Block) (h : Histogram) (lbs : List Float) (bounds : Bounds costs b h lbs) where
  abbrev lb : ℕ → Float
  lb j = get_or lbs j nan

  pub walking_starts : (left : List Bool) (kept : BestMap) → opened left ≡ sizes_to h.n → Stands none kept
      → Walking samples costs b h lbs left kept
  unfolding searched
  walking_starts left kept all S = record {
    sizes = rw all (sizes_each h.n);
    standing = none;
    stands = S;
    whole = ap (λ ks. visited samples costs b h ks none)
        (ap (λ ks. in_order lb ks) all ∙ order_same h.n lb (λ j. (size_of costs b h j).lb) bounds);
  }

  module _ {left : List Bool} {kept : BestMap} (w : Walking samples costs b h lbs left kept) where
    -- no size is left
    pub walking_ends : None ≡ next lb left → Stands (searched samples costs b h) kept
    unfolding visited ordered
    walking_ends n = rw (← w.whole, next_none lb left n) w.stands

    -- next is the size k
    module _ (k : ℕ) (is : Some k ≡ next lb left) where
      pub size_known : SizeTo h.n k
      size_known = next_each lb left k is (SizeTo h.n) w.sizes

      -- the size k first, then the others
      in_turn : visited samples costs b h (k ∷ in_order lb (opened (set left k false))) w.standing
          ≡ searched samples costs b h
      in_turn =
          ap (λ ks. visited samples costs b h ks w.standing)
          (sym (next_then lb left k is))
          ∙ w.whole

      -- the same test as the code's
      same_test : le w.standing.best.total (size_of costs b h k).lb ≡ le kept.best.total (get_or lbs k nan)
      same_test =
          let size = size_known in
          rw (bounds k size.0 size.1 size.2, w.stands.is) refl

      -- an `lb` not below the best ends the walk
      pub walking_stops : le kept.best.total (get_or lbs k nan) ≡ true → Stands (searched samples costs b h) kept
      unfolding visited
      walking_stops t = rw (← in_turn, same_test, t) w.stands

      -- else the size is tried, and closed
      pub walking_goes_on : le kept.best.total (get_or lbs k nan) ≡ false → (z : Size) → z ≡ size_of costs b h k
          → (kept' : BestMap) → Stands (tried_both samples costs b z w.standing) kept'
          → Walking samples costs b h lbs (set left k false) kept'
      unfolding visited
      walking_goes_on t z e kept' S = record {
        sizes = closed_each (SizeTo h.n) left k w.sizes;
        standing = tried_both samples costs b (size_of costs b h k) w.standing;
        stands = rw e at S;
        whole = rw (same_test, t) at in_turn;
      }

      pub fewer_left : length (opened (set left k false)) < length (opened left)
      fewer_left = next_fewer lb left k is
