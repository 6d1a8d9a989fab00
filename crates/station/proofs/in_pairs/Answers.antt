use mathlib.Core.Path.{◌≡◌, refl, ap, ◌∙◌}
use native.Mathlib.Omega.{arith}
use Prim.Native.Nat.{◌<◌, ◌+◌, ◌*◌}
use borrow.Author.Rules.{rules}
use lib.ListN.{length}
use Rattle.lists.proofs.Each.{any}
use Rattle.accept.specs.Answer.{refused_by}
use Rattle.station.specs.Searched.{bits_of}
use Rattle.station.specs.Strip.{pair_at}
use Rattle.station.proofs.Rows.{begins, turn, ends}
use Rattle.station.proofs.in_pairs.Goals as goal

pub loop-i-init : goal.loop-i-init
loop-i-init c = begins 2 _ _ refl

pub loop-i-preserved : goal.loop-i-preserved
loop-i-preserved c =
    let l = c.loop-i in
    let a = c.args.answers in
    let inside : l.i < length a = search rules in
    let put : c.copy_from_slice.new.self ≡ pair_at a l.i = c.copy_from_slice.ensures.after ∙ ap bits_of (any a l.i _ (refused_by 0) inside) in
    turn 2 (pair_at a) l.bits c.copy_from_slice.new.self l.i (2 * l.i) (2 * l.i + 2) l.invariant c.loop-i-test.true refl (omega arith) (omega arith)
    (omega (arith, c.loop-i-test.true)) (search rules) put

pub returns : goal.returns
returns c = let l = c.loop-i in ends 2 _ l.bits l.i l.invariant c.loop-i-test.false
