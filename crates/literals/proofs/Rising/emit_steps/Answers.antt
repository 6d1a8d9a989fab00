use mathlib.Core.Path.{◌≡◌}
use Prim.Native.Nat.{◌<◌}
use native.Mathlib.Omega.{arith}
use lib.ListN.{length, get_or}
use Rattle.lists.specs.Written.{written}
use Rattle.literals.specs.Literals.{cut_bits, step_words}
use Rattle.literals.proofs.Colors.{more, none, turn}
use Rattle.literals.proofs.Widths.{cut_bits_le}
use Rattle.literals.proofs.Rising.emit_steps.Goals as goal

pub step-requires : goal.step-requires
step-requires c = (turn _ _ _ _ c.loop-color-test.true c.loop-color.invariant.levels).up

pub put_bypass-pos-requires : goal.put_bypass-pos-requires
unfolding step_words
put_bypass-pos-requires c =
    let l = c.loop-color in
    let s = c.args.self.now in
    let rest = more s.rest.now l.color-index c.loop-color-test.true in
    let space : l.pos < length l.out = omega (arith, rw rest at l.invariant.place, l.auto.out, c.requires.colors_in_bounds) in
    (omega (arith, l.invariant.bits, s.depth), omega arith, space)

pub cut_bits-b-requires : goal.cut_bits-b-requires
cut_bits-b-requires c =
    let l = c.loop-color in
    let t = turn _ _ c.args.self.now.bd _ c.loop-color-test.true l.invariant.levels in
    (c.args.self.now.depth.1, omega (arith, t.up, t.most))

pub loop-color-preserved : goal.loop-color-preserved
unfolding written step_words
loop-color-preserved c =
    let put = c.put_bypass-pos in
    let l = c.loop-color in
    let s = c.args.self.now in
    let to = get_or s.rest.now l.color-index 0 in
    let rest = more s.rest.now l.color-index c.loop-color-test.true in
    let cut : c.cut_bits-b.result ≡ cut_bits s.bd l.b to = c.cut_bits-b.ensures in
    record {
      levels = (turn _ _ _ _ c.loop-color-test.true l.invariant.levels).left;
      bits = omega (arith, cut, cut_bits_le s.bd l.b to, l.invariant.bits);
      place = rw cut (omega (arith, put.ensures.0, rw rest at l.invariant.place));
      words = rw (cut, put.ensures.1, put.ensures.0, c.step.ensures.0) (rw rest at l.invariant.words);
    }

pub returns : goal.returns
unfolding written step_words
returns c =
    let l = c.loop-color in
    let end = none c.args.self.now.rest.now l.color-index c.loop-color-test.false in
    record { value = omega (arith, rw end at l.invariant.place); out_after = rw end at l.invariant.words }
