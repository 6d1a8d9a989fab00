use mathlib.Core.Path.{◌≡◌, refl, ap, ◌∙◌}
use native.Mathlib.Omega.{arith}
use Prim.Native.Nat.{◌<◌, ◌+◌, ◌*◌}
use borrow.Author.Rules.{rules}
use lib.ListN.{length}
use Rattle.lists.proofs.Each.{any}
use Rattle.accept.specs.Answer.{refused_by}
use Rattle.station.specs.Strip.{row_of, row_at}
use Rattle.station.proofs.Rows.{begins, turn, ends}
use Rattle.station.proofs.in_rows.Goals as goal

pub loop-i-init : goal.loop-i-init
loop-i-init c = begins 11 _ _ refl

pub loop-i-preserved : goal.loop-i-preserved
loop-i-preserved c =
    let l = c.loop-i in
    let a = c.args.answers in
    let inside : l.i < length a = search rules in
    let row = c.in_row in
    let told : row.result ≡ row_at a l.i = row.ensures ∙ ap row_of (any a l.i _ (refused_by 0) inside) in
    let put : c.copy_from_slice.new.self ≡ row.result = c.copy_from_slice.ensures.after in
    turn 11 (row_at a) l.rows c.copy_from_slice.new.self l.i (11 * l.i) (11 * l.i + 11) l.invariant c.loop-i-test.true refl (omega arith) (omega arith)
    (omega (arith, c.loop-i-test.true)) (search rules) (put ∙ told)

pub returns : goal.returns
returns c = let l = c.loop-i in ends 11 _ l.rows l.i l.invariant c.loop-i-test.false
