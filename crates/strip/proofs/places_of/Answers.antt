use mathlib.Core.Path.{◌≡◌, refl}
use mathlib.Core.List.{[]}
use Prim.Native.Nat.{◌<◌}
use native.Mathlib.Omega.{arith}
use Rattle.lists.specs.Counted.{total}
use Rattle.strip.specs.Strip.{blocks_in}
use Rattle.strip.proofs.Sides.{Within, block_within, pair_at, places_more}
use Rattle.strip.proofs.places_of.Goals as goal

pub loop-pair-init : goal.loop-pair-init
unfolding total
loop-pair-init c = refl

pub past-at-requires : goal.past-at-requires
past-at-requires c =
    let p = c.requires in
    let sides = c.args.sides.now in
    let here : c.loop-pair.pair-index < blocks_in sides = omega (arith, c.loop-pair-test.true, c.as_chunks.ensures.front_len) in
    let w : Within sides c.loop-pair.pair-index = block_within _ p.0 p.1 _ here in
    let pair = pair_at sides _ c.as_chunks.ensures.front _ [] here in
    let is = c.loop-pair.invariant in
    (rw pair.0 w.width, rw pair.1 w.height, rw is w.cells_before, rw is w.lines_before)

pub loop-pair-preserved : goal.loop-pair-preserved
loop-pair-preserved c =
    let sides = c.args.sides.now in
    let here : c.loop-pair.pair-index < blocks_in sides = omega (arith, c.loop-pair-test.true, c.as_chunks.ensures.front_len) in
    let pair = pair_at sides _ c.as_chunks.ensures.front _ [] here in
    places_more sides c.loop-pair.pair-index _ _ c.loop-pair.at _ c.loop-pair.invariant pair.0 pair.1 c.past-at.ensures

pub returns : goal.returns
returns c =
    let l = c.loop-pair in
    let e : l.pair-index ≡ blocks_in c.args.sides.now = omega (arith, c.loop-pair-test.false, c.as_chunks.ensures.front_len) in
    rw e at l.invariant
