use mathlib.Core.Path.{◌≡◌, subst}
use mathlib.Core.List.{List}
use lib.Dec.{lit≤}
use lib.Ieee.{Float}
use Rattle.groups.specs.declared.Histogram.{Histogram}
use Rattle.sizes.specs.declared.Block.{Block}
use Rattle.sizes.specs.declared.Sizes.{Sizes}
use Rattle.search.specs.declared.BestMap.{BestMap}
use Rattle.search.specs.Steps.{Stands, Written}
use native.Mathlib.Nat.{min-le_left}
use Rattle.search.specs.Search.{searched}
use Rattle.search.proofs.Passed.{ready_of, passed_with, few_cells}
use Rattle.search.proofs.Colors.{levels_in, is_histogram}
use Rattle.search.proofs.Aside.{known, whole}
use Rattle.search.proofs.Asked.search_levels.Goals as goal

-- by the sizes that a task was made of
found_by : (samples costs : List Float) (b : Block) (h : Histogram) (z : Sizes) (kept : BestMap) → z.costs.now ≡ costs → z.block ≡ b
    → z.histogram.now ≡ h → Stands (searched samples z.costs.now z.block z.histogram.now) kept
    → Stands (searched samples costs b h) kept
found_by samples costs b h z kept e f g S = rw (e, f, g) at S

pub tables_of-programme-requires : goal.tables_of-programme-requires
tables_of-programme-requires c =
    let levels = c.requires.levels in (
      rw c.last_size.ensures (min-le_left 8 c.args.h.now.n),
      (levels.2, ∣ (levels_in c.args.self.now.samples.now, is_histogram (ready_of c.requires.passed) levels.0 levels.2) ∣₁),
    )

pub new-requires : goal.new-requires
new-requires c =
    let levels = c.requires.levels in
    known (ready_of c.requires.passed) levels.0 levels.1 levels.2 _ _ _ c.last_size.ensures c.tables_of-programme.ensures

pub invariant_of-task : goal.invariant_of-task
invariant_of-task c =
    let p = c.requires.passed in
    let is = c.new.ensures in
    record { passed = rw (is.0, is.1) (passed_with p 4096 64 (few_cells (ready_of p)) (lit≤ tt)).zero }

pub hand_over-requires : goal.hand_over-requires
hand_over-requires c =
    let ready = ready_of c.requires.passed in
    (few_cells ready, ready.room, ready.wide_most, ready.high_most, ready.columns, ready.rows)

pub returns : goal.returns
returns c =
    let a = c.args.self.now in
    let levels = c.requires.levels in
    let stands = found_by a.samples.now a.costs.now a.block c.args.h.now c.new.result _ c.new.ensures.0 c.new.ensures.1 c.new.ensures.2
    c.find.ensures in
    subst (λ (h : Histogram). Written (searched a.samples.now a.costs.now a.block h) c.args.map.now c.hand_over.new.map c.args.flags.now
    c.hand_over.new.flags c.hand_over.result) levels.0
    (c.hand_over.ensures _ stands (whole (ready_of c.requires.passed) levels.0 levels.1 levels.2))
