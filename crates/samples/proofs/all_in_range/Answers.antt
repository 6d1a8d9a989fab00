use mathlib.Core.Path.{◌≡◌, sym, ◌∙◌}
use mathlib.Core.Bool.{Bool, ◌&&◌, and_assoc, and-true}
use mathlib.Core.List.{List, [], ◌∷◌}
use Prim.Native.Nat.{ℕ, ◌+◌}
use native.Mathlib.Numerals.{add-one}
use lib.ListN.{get_or, drop, drop_of_length-le}
use lib.Seq.{drop-cons}
use lib.Ieee.{Float, nan}
use Rattle.samples.specs.Samples.{in_range, all_in_range}
use Rattle.samples.proofs.all_in_range.Goals as goal

next : (top : ℕ) (ok r whole : Bool) (x : Float) (rest : List Float) → r ≡ in_range top x
    → ok && all_in_range top (x ∷ rest) ≡ whole → (ok && r) && all_in_range top rest ≡ whole
unfolding all_in_range
next top ok r whole x rest e h = rw e (and_assoc ok (in_range top x) (all_in_range top rest) ∙ h)

pub loop-x-preserved : goal.loop-x-preserved
loop-x-preserved c =
    let l = c.loop-x in
    let xs = c.args.xs.now in
    let e : drop l.x-index xs ≡ get_or xs l.x-index nan ∷ drop (l.x-index + 1) xs =
    rw add-one (drop-cons xs l.x-index nan c.loop-x-test.true) in
    next c.args.top l.ok _ _ (get_or xs l.x-index nan) (drop (l.x-index + 1) xs) c.in_range-ok.ensures (rw e at l.invariant)

pub returns : goal.returns
unfolding all_in_range
returns c =
    let l = c.loop-x in
    let e : drop l.x-index c.args.xs.now ≡ [] = drop_of_length-le c.args.xs.now {i = l.x-index} c.loop-x-test.false in
    sym (and-true l.ok) ∙ (rw e at l.invariant)
