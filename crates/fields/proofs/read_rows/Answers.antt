use native.Mathlib.Numerals.{add-one}
use Rattle.lists.proofs.Written.{written_append}
use Rattle.lists.specs.Written.{written}
use lib.ListN.{length}
use native.Mathlib.Nat.{sub-zero, suc-mul, zero-mul, mul-le-mul_right}
use native.Mathlib.Omega.{arith}
use Prim.Native.Nat.{◌≤◌, ◌+◌, ◌-◌, ◌*◌}
use Rattle.lists.proofs.Rest.{one_left, none_left}
use Rattle.fields.proofs.Laws.{length_line, length_cut, cut_append, map_cut, row_room}
use Rattle.fields.specs.Fields.{line_numbers, row_numbers, cut}
use mathlib.Core.Path.{◌≡◌, refl, ◌∙◌}
use Rattle.fields.proofs.read_rows.Goals as goal

pub loop-y-init : goal.loop-y-init
loop-y-init c = (omega arith, rw (zero-mul, sub-zero) refl)

pub overflow_mul-y : goal.overflow_mul-y
overflow_mul-y c = omega (arith, row_room c.loop-y.y c.args.h c.args.w c.loop-y-test.true, mul-le-mul_right c.args.w c.requires.1)

pub read_line-requires : goal.read_line-requires
read_line-requires c =
    let l = c.loop-y in
    let room : l.y * c.args.w + c.args.w ≤ length l.out = omega (arith, row_room l.y c.args.h c.args.w c.loop-y-test.true) in
    (omega arith, room)

pub loop-y-preserved : goal.loop-y-preserved
unfolding row_numbers
loop-y-preserved c =
    let l = c.loop-y in
    let a = c.args in
    let us = line_numbers a.s.now l.p a.w in
    let vs = row_numbers a.s.now (l.p + (8 * a.w + 1)) a.w (a.h - (l.y + 1)) in
    let next : (l.y + 1) * a.w ≡ l.y * a.w + length (cut 255 us) =
    rw (add-one, suc-mul) (omega (arith, length_cut 255 us, length_line a.s.now l.p a.w)) in (
      omega arith,
      rw (c.read_line.ensures, map_cut 255 us, next)
          (written_append l.out (l.y * a.w) (cut 255 us) (cut 255 vs)
          ∙ rw (← cut_append 255 us vs) (rw (one_left a.h l.y c.loop-y-test.true) at l.invariant.1)),
    )

pub returns : goal.returns
unfolding written cut row_numbers
returns c = let l = c.loop-y in rw (none_left c.args.h l.y c.loop-y-test.false) at l.invariant.1
