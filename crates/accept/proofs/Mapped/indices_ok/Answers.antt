use mathlib.Core.Bool.{and_assoc, and-true}
use lib.ListN.{drop_of_length-le}
use Rattle.std.proofs.Common.{◌≡◌, sym, ◌∙◌, [], ◌∷◌, ◌+◌, add-one, get_or, drop, drop-cons}
use Rattle.lists.specs.Counted.{all_in}
use Rattle.accept.proofs.Mapped.indices_ok.Goals as goal

pub loop-index-preserved : goal.loop-index-preserved
unfolding all_in
loop-index-preserved c =
    let l = c.loop-index in
    let map = c.args.self.now.map.now in
    let e : drop l.index-index map ≡ get_or map l.index-index 0 ∷ drop (l.index-index + 1) map =
    rw add-one (drop-cons map l.index-index 0 c.loop-index-test.true) in
    simp and_assoc (rw e at l.invariant)

pub returns : goal.returns
unfolding all_in
returns c =
    let l = c.loop-index in
    let map = c.args.self.now.map.now in
    let e : drop l.index-index map ≡ [] = drop_of_length-le map {i = l.index-index} c.loop-index-test.false in
    sym (and-true l.ok) ∙ (rw e at l.invariant)
