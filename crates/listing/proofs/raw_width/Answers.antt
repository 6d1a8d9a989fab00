use Rattle.std.proofs.Common.{◌≡◌, ◌+◌, [], ◌∷◌, add-one, arith, get_or, drop, drop-cons}
use lib.ListN.{drop_of_length-le}
use Rattle.literals.specs.Words.{raw_width_of}
use Rattle.listing.proofs.raw_width.Goals as goal

pub loop-word-preserved : goal.loop-word-preserved
unfolding raw_width_of
loop-word-preserved c =
    let l = c.loop-word in
    let ws = c.args.words.now in
    let e : drop l.word-index ws ≡ get_or ws l.word-index 0 ∷ drop (l.word-index + 1) ws = rw add-one (drop-cons ws l.word-index 0 c.loop-word-test.true) in
    (omega (arith, c.raw_bits-total.ensures.1, l.invariant.0), omega (arith, c.raw_bits-total.ensures.0, rw e at l.invariant.1))

pub returns : goal.returns
unfolding raw_width_of
returns c =
    let l = c.loop-word in
    let e : drop l.word-index c.args.words.now ≡ [] = drop_of_length-le c.args.words.now {i = l.word-index} c.loop-word-test.false in
    (omega (arith, rw e at l.invariant.1), omega (arith, l.invariant.0, l.auto.word-index-end))
