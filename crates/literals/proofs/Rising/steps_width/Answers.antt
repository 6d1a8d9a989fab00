use mathlib.Core.Path.{◌≡◌}
use native.Mathlib.Omega.{arith}
use lib.ListN.{get_or}
use Rattle.literals.specs.Literals.{cut_bits, steps_width}
use Rattle.literals.proofs.Levels.{level_at, levels_tail}
use Rattle.literals.proofs.Colors.{more, none}
use Rattle.literals.proofs.Widths.{cut_bits_le}
use Rattle.literals.proofs.Rising.steps_width.Goals as goal

pub loop-color-init : goal.loop-color-init
loop-color-init c =
    let s = c.args.self.now in
    record { levels = levels_tail s.bd s.first.0 s.rest.now s.levels; bits = c.requires.0; few = omega arith; width = omega arith }

pub cut_bits-b-requires : goal.cut_bits-b-requires
cut_bits-b-requires c =
    let l = c.loop-color in
    let s = c.args.self.now in
    let rest = more s.rest.now l.color-index c.loop-color-test.true in
    (s.depth.1, level_at s.bd _ (rw rest at l.invariant.levels) 0 (omega arith))

pub loop-color-preserved : goal.loop-color-preserved
unfolding steps_width
loop-color-preserved c =
    let l = c.loop-color in
    let s = c.args.self.now in
    let to = get_or s.rest.now l.color-index 0 in
    let rest = more s.rest.now l.color-index c.loop-color-test.true in
    let cut : c.cut_bits-b.result ≡ cut_bits s.bd l.b to = c.cut_bits-b.ensures in
    record {
      levels = levels_tail s.bd to _ (rw rest at l.invariant.levels);
      bits = omega (arith, cut, cut_bits_le s.bd l.b to, l.invariant.bits);
      few = omega (arith, l.invariant.few, l.invariant.bits, s.depth);
      width = rw cut (omega (arith, rw rest at l.invariant.width));
    }

pub returns : goal.returns
unfolding steps_width
returns c =
    let l = c.loop-color in
    omega (arith, rw (none c.args.self.now.rest.now l.color-index c.loop-color-test.false) at l.invariant.width)
