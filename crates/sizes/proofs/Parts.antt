-- The parts of a size: its head, its colours as literals take them, and the whole.
use mathlib.Core.Path.{◌≡◌, refl}
use mathlib.Core.Bool.{true}
use mathlib.Core.List.{List}
use Prim.Native.Nat.{ℕ, suc, ◌+◌, ◌-◌, ◌*◌, ◌^◌, min, ◌≤◌, ◌<◌}
use mathlib.Core.Logic.{∥∥₁_elim, ∥∥₁_map}
use native.Mathlib.Omega.{arith}
use denote.Struct.Props.{props}
use lib.ListN.{length, get_or, take}
use lib.Ieee.{Float, nan, binary32, add, sub}
use Rattle.lists.specs.Counted.{bit}
use Rattle.lists.proofs.Choice.{either_way}
use Rattle.ieee.specs.Numbers.{nat}
use Rattle.literals.specs.Literals.{literal_bits, levels_ok}
use Rattle.literals.proofs.Levels.{levels_both}
use Rattle.samples.specs.Narrow.{narrow_of}
use Rattle.groups.specs.declared.Groups.{Groups}
use Rattle.groups.specs.declared.Histogram.{Histogram}
use Rattle.groups.specs.Histogram.{IsHistogram, HasLevels}
use Rattle.groups.specs.Groups.{centers_of, groups_of, prefix_of, cost_in, cut_in}
use Rattle.groups.specs.Tables.{TablesOf}
use Rattle.groups.proofs.Rows.{fewer_rows}
use Rattle.groups.proofs.Colors.{centers_ascend, centers_top, colors_take}
use Rattle.sizes.specs.declared.Block.{Block}
use Rattle.sizes.specs.declared.Size.{Size}
use Rattle.counts.specs.Counts.{orient_sent}
use Rattle.sizes.specs.Sizes.{head_of, fewest_lines, lb_of, size_of}
use Rattle.sizes.specs.Known.{Known}

-- the head, from its parts
pub head_is : (costs : List Float) (b : Block) (colors : List ℕ) (literal : ℕ) (sent : Float)
    → literal ≡ literal_bits b.bd colors
    → sent ≡ nat binary32 (bit (orient_sent b.width b.height))
    → let mode = sub binary32 (get_or costs 1 nan) (get_or costs 0 nan) in
    let size = get_or costs (2 + (length colors - 2)) nan in
    add binary32 (add binary32 (add binary32 mode size) (nat binary32 literal)) sent ≡ head_of costs b colors
unfolding head_of
head_is costs b colors literal sent lit snt = rw (lit, snt) refl

-- a block of at most 64 × 64 has at most 64 lines
pub fewest_most : (w h : ℕ) → w ≤ 64 → h ≤ 64 → fewest_lines w h ≤ 64
fewest_most w h wide high = either_way (λ n. n ≤ 64) (orient_sent w h) (min w h) h (omega arith) high

-- the colours of k groups may be sent as literals, where the depth holds every level
pub centers_ok : (levels : List ℕ) (h : Histogram) → IsHistogram levels h → (bd k : ℕ) → 0 < k → k ≤ h.n
    → ((i : ℕ) → get_or levels i 0 ≤ 2 ^ bd - 1) → levels_ok bd (centers_of h k) ≡ true
centers_ok levels h is bd k some fit top =
    levels_both bd (centers_of h k) (centers_ascend levels h is k some fit) (centers_top levels h is k some fit (2 ^ bd - 1) top)

-- tables in two ways are one
tables_prop : (h : Histogram) (k : ℕ) (table : List Float) (cuts : List ℕ) → IsProp (TablesOf h k table cuts)
tables_prop h k table cuts x y =
    let w = prefix_of h.w in
    let s = prefix_of h.s in
    let q = prefix_of h.q in
    let costs_prop : IsProp ((i j : ℕ) → i ≤ k → j ≤ h.n → get_or table (i * 33 + j) nan ≡ cost_in w s q i j) = hlevel props in
    let cuts_prop : IsProp ((i j : ℕ) → suc i ≤ k → j ≤ h.n → get_or cuts (i * 33 + 33 + j) 0 ≡ cut_in w s q i j) =
    hlevel props in
    λ i. record { costs = costs_prop x.costs y.costs i; cuts = cuts_prop x.cuts y.cuts i }

module _ {costs : List Float} {b : Block} {h : Histogram} {table : List Float} {cuts : List ℕ}
    (known : Known costs b h table cuts) (k : ℕ) (fit : (2 ≤ k) × (k ≤ 8) × (k ≤ h.n)) where
  -- the tables of the block are tables for k groups
  tables_at : TablesOf h k table cuts
  tables_at =
      fewer_rows (prefix_of h.w) (prefix_of h.s) (prefix_of h.q) h.n (min 8 h.n) k table cuts (omega arith)
      known.tables

  centers_are : take k (groups_of h k).colors ≡ centers_of h k
  centers_are = colors_take known.levels h known.histogram k (omega arith) fit.2 fit.1

  levels_fit : levels_ok b.bd (take k (groups_of h k).colors) ≡ true
  levels_fit = rw centers_are (centers_ok known.levels h known.histogram b.bd k (omega arith) fit.2 known.top)

-- what size_of asks and uses of a block of which this is known, but not how
module _ {costs : List Float} {b : Block} {h : Histogram} {table : List Float} {cuts : List ℕ}
    (known : ∥ Known costs b h table cuts ∥₁) (k : ℕ) (fit : (2 ≤ k) × (k ≤ 8) × (k ≤ h.n)) where
  pub has_levels : HasLevels h
  has_levels = (
    ∥∥₁_elim known (hlevel props) (λ it. it.histogram.few),
    ∥∥₁_map known (λ it. (it.levels, it.histogram)),
  )

  pub tables_for : TablesOf h k table cuts
  tables_for = ∥∥₁_elim known (tables_prop h k table cuts) (λ it. tables_at it k fit)

  pub levels_ok_holds : (g : Groups) → g ≡ groups_of h k → levels_ok b.bd (take k g.colors) ≡ true
  levels_ok_holds g e = rw e (∥∥₁_elim known (hlevel props) (λ it. levels_fit it k fit))

  -- the size, from what the code works out in turn
  pub size_is : (g : Groups) (head error lb : Float) → g ≡ groups_of h k → head ≡ head_of costs b (take k g.colors)
      → error ≡ narrow_of g.error → lb ≡ lb_of costs b error head
      → ◌≡◌ {A = Size} (record { n = k; colors = g.colors; head = head; lb = lb }) (size_of costs b h k)
  size_is g head error lb eg eh ee el =
      let centers : take k (groups_of h k).colors ≡ centers_of h k =
      ∥∥₁_elim known (hlevel props) (λ it. centers_are it k fit) in
      rw (el, ee, eh, eg, centers) refl
