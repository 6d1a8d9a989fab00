use mathlib.Core.Path.{◌≡◌, refl, ◌∙◌}
use mathlib.Core.List.{List, []}
use Prim.Native.Nat.{ℕ, ◌≤◌, ◌<◌}
use borrow.Author.Rules.{rules}
use native.Mathlib.Omega.{arith}
use lib.ListN.{length, length-set}
use lib.Ieee.{Float}
use Rattle.lists.specs.Counted.{total}
use Rattle.strip.specs.Strip.{blocks_in, block_at, strip_number}
use Rattle.strip.specs.Steps.{places_to, Fits}
use Rattle.strip.proofs.Sides.{ready_of, few, fits_at, pair_at, places_more}
use Rattle.strip.proofs.Turn.{nothing, turn_at}
use Rattle.strip.proofs.Shared.search_all.Goals as goal

module _ (sides : List ℕ) (samples map flags : ℕ) (passed : strip_number sides samples map flags ≡ 0) where
  most : blocks_in sides ≤ 64
  most = let r = ready_of sides _ _ _ passed in few sides r.each r.whole

  -- the places of the block at hand lie within the buffers
  here : (bd : ℕ) (lambda : Float) (i cells lines : ℕ) → i < blocks_in sides → cells ≡ map → lines ≡ flags
      → Fits (block_at sides bd lambda i) (places_to sides i) samples cells lines
  here bd lambda i cells lines inside e f = rw (e, f) (fits_at sides _ _ _ passed bd lambda i inside)

pub loop-i-init : goal.loop-i-init
unfolding total
loop-i-init c =
    let a = c.args in
    let s = a.self.now in
    record {
      map_len = refl;
      flags_len = refl;
      answers_len = refl;
      places = refl;
      searched = nothing a.sides.now s.samples.now s.costs.now s.bd s.lambda a.map.now a.flags.now _ 64 (search rules);
    }

pub search_at-requires : goal.search_at-requires
search_at-requires c =
    let a = c.args in
    let s = a.self.now in
    let l = c.loop-i in
    let sides = a.sides.now in
    let inside : l.i < blocks_in sides = omega (arith, c.loop-i-test.true, c.as_chunks.ensures.front_len) in
    let pair = pair_at sides _ c.as_chunks.ensures.front _ [] inside in
    rw (pair.0, pair.1, l.invariant.places)
    (here sides _ _ _ c.requires s.bd s.lambda l.i _ _ inside l.invariant.map_len l.invariant.flags_len)

pub offset_bounds-answers-i : goal.offset_bounds-answers-i
offset_bounds-answers-i c =
    let below = most c.args.sides.now _ _ _ c.requires in
    record { fits = omega (arith, c.loop-i-test.true, c.as_chunks.ensures.front_len) }

pub bounds-answers-i : goal.bounds-answers-i
bounds-answers-i c =
    let below = most c.args.sides.now _ _ _ c.requires in
    omega (arith, c.loop-i-test.true, c.as_chunks.ensures.front_len)

pub past-at-requires : goal.past-at-requires
past-at-requires c =
    let a = c.args in
    let s = a.self.now in
    let l = c.loop-i in
    let sides = a.sides.now in
    let inside : l.i < blocks_in sides = omega (arith, c.loop-i-test.true, c.as_chunks.ensures.front_len) in
    let pair = pair_at sides _ c.as_chunks.ensures.front _ [] inside in
    let f = here sides _ _ _ c.requires s.bd s.lambda l.i _ _ inside l.invariant.map_len l.invariant.flags_len in
    let is = l.invariant.places in
    (rw pair.0 f.width, rw pair.1 f.height, rw is f.cells_before, rw is f.lines_before)

pub loop-i-preserved : goal.loop-i-preserved
loop-i-preserved c =
    let a = c.args in
    let s = a.self.now in
    let l = c.loop-i in
    let sides = a.sides.now in
    let inside : l.i < blocks_in sides = omega (arith, c.loop-i-test.true, c.as_chunks.ensures.front_len) in
    let pair = pair_at sides _ c.as_chunks.ensures.front _ [] inside in
    let f = here sides _ _ _ c.requires s.bd s.lambda l.i _ _ inside l.invariant.map_len l.invariant.flags_len in
    let below = most sides _ _ _ c.requires in
    let found = c.search_at in
    let room : l.i < length l.answers = omega (arith, l.invariant.answers_len, c.loop-i-test.true, c.as_chunks.ensures.front_len) in
    record {
      map_len = found.auto.map ∙ l.invariant.map_len;
      flags_len = found.auto.flags ∙ l.invariant.flags_len;
      answers_len = length-set l.answers l.i found.result ∙ l.invariant.answers_len;
      places = places_more sides l.i _ _ l.at _ l.invariant.places pair.0 pair.1 c.past-at.ensures;
      searched = turn_at sides s.samples.now s.costs.now s.bd s.lambda a.map.now l.map a.flags.now l.flags
          l.i l.answers room l.invariant.searched (omega (arith, f.mapped)) (omega (arith, f.lined))
          _ l.at (rw (pair.0, pair.1) refl) l.invariant.places _ _ _ found.ensures;
    }

pub returns : goal.returns
returns c =
    let l = c.loop-i in
    let e : l.i ≡ blocks_in c.args.sides.now = omega (arith, c.loop-i-test.false, c.as_chunks.ensures.front_len) in
    rw e at l.invariant.searched
