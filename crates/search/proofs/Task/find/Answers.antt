use mathlib.Core.List.{List}
use mathlib.Core.Path.{◌≡◌, sym}
use lib.Ieee.{Float}
use Rattle.sizes.specs.declared.Block.{Block}
use native.Mathlib.Nat.{lt_of_le_of_lt, mul-le-mul, le_refl}
use lib.Dec.{lit<}
use Rattle.sizes.specs.declared.Size.{Size}
use Rattle.search.specs.declared.BestMap.{BestMap}
use Rattle.search.specs.Search.{Standing, tried_both}
use Rattle.search.specs.Steps.{Stands}
use native.Mathlib.Omega.{arith}
use Rattle.sizes.proofs.Levels.{SizeTo}
use Rattle.search.proofs.Walk.{walking_starts, walking_ends, size_known, walking_stops, walking_goes_on, fewer_left}
use Rattle.search.proofs.Task.find.Goals as goal

-- by what a trial was made of
tried_by : (x x' c c' : List Float) (b b' : Block) (z z' : Size) (s : Standing) (kept : BestMap) → x ≡ x' → c ≡ c' → b ≡ b' → z ≡ z'
    → Stands (tried_both x c b z s) kept → Stands (tried_both x' c' b' z' s) kept
tried_by x x' c c' b b' z z' s kept e f g h S = rw (sym e, sym f, sym g, sym h) S

-- the size at hand is one that the block has
here : (c : goal.In-Some) → SizeTo c.args.self.now.sizes.histogram.now.n c.in-Some.k
here c =
    let t = c.args.self.now in
    let z = t.sizes in
    size_known t.samples.now z.costs.now z.block z.histogram.now _ c.lbs_of-lbs.ensures c.loop-k.invariant _ c.in-Some.ensures

pub loop-k-init : goal.loop-k-init
loop-k-init c =
    let t = c.args.self.now in
    let z = t.sizes in
    walking_starts t.samples.now z.costs.now z.block z.histogram.now _ c.lbs_of-lbs.ensures _ _ c.open_sizes-left.ensures c.requires

pub offset_bounds-lbs-k : goal.offset_bounds-lbs-k
offset_bounds-lbs-k c = record { fits = lt_of_le_of_lt (mul-le-mul (here c).1 (le_refl 4)) (lit< tt) }

pub bounds-lbs-k : goal.bounds-lbs-k
bounds-lbs-k c = let h = (here c).1 in omega arith

pub returns-then-lbs-k : goal.returns-then-lbs-k
returns-then-lbs-k c =
    let t = c.args.self.now in
    let z = t.sizes in
    walking_stops t.samples.now z.costs.now z.block z.histogram.now _ c.lbs_of-lbs.ensures c.loop-k.invariant _ c.in-Some.ensures
    c.if-lbs-k.true

pub size_of-requires : goal.size_of-requires
size_of-requires c =
    let t = c.args.self.now in
    let z = t.sizes in
    size_known t.samples.now z.costs.now z.block z.histogram.now _ c.lbs_of-lbs.ensures c.loop-k.invariant _ c.in-Some.ensures

pub new-requires : goal.new-requires
new-requires c =
    let t = c.args.self.now in
    let z = t.sizes in
    let known = size_known t.samples.now z.costs.now z.block z.histogram.now _ c.lbs_of-lbs.ensures c.loop-k.invariant _
    c.in-Some.ensures in
    (rw c.size_of.ensures known.0, rw c.size_of.ensures known.1)

pub loop-k-smaller : goal.loop-k-smaller
loop-k-smaller c =
    let t = c.args.self.now in
    let z = t.sizes in
    fewer_left t.samples.now z.costs.now z.block z.histogram.now _ c.lbs_of-lbs.ensures c.loop-k.invariant _ c.in-Some.ensures

pub loop-k-preserved : goal.loop-k-preserved
loop-k-preserved c =
    let t = c.args.self.now in
    let z = t.sizes in
    let walk = c.loop-k.invariant in
    let tried = tried_by _ _ _ _ _ _ _ c.size_of.result walk.standing _ c.new.ensures.0 c.new.ensures.1 c.new.ensures.2 c.new.ensures.3
    (c.both.ensures walk.standing walk.stands) in
    walking_goes_on t.samples.now z.costs.now z.block z.histogram.now _ c.lbs_of-lbs.ensures walk _ c.in-Some.ensures
    c.if-lbs-k.false _ c.size_of.ensures _ tried

pub returns : goal.returns
returns c =
    let t = c.args.self.now in
    let z = t.sizes in
    walking_ends t.samples.now z.costs.now z.block z.histogram.now _ c.lbs_of-lbs.ensures c.loop-k.invariant
    c.in_default.ensures
