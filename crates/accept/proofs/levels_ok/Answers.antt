use mathlib.Core.Bool.{and_assoc, and-true}
use lib.ListN.{drop_of_length-le}
use Rattle.std.proofs.Common.{List, ℕ, ◌≡◌, sym, ap, ◌∙◌, [], ◌∷◌, ◌+◌, ◌-◌, ◌≤◌, add-one, get_or, length, take, drop, drop-cons, arith}
use Rattle.std.proofs.lemmas.Grind.{common_steps}
use Rattle.lists.specs.Counted.{above, all_in}
use Rattle.literals.specs.Literals.{levels_ok}
use Rattle.accept.proofs.Levels.{levels_after, levels_first, levels_next}
use Rattle.accept.proofs.levels_ok.Goals as goal

-- the first, and those behind it
first_rest : (colors : List ℕ) → 1 ≤ length colors → colors ≡ get_or colors 0 0 ∷ take (length colors - 1) (drop 1 colors)
first_rest colors h = grind (arith, common_steps, drop-cons colors 0 0)

pub loop-color-init : goal.loop-color-init
loop-color-init c =
    sym (ap (levels_ok c.args.bd) (first_rest c.args.colors.now c.requires.0) ∙ rw c.top_level-top.ensures (levels_first _ _ _))

pub loop-color-preserved : goal.loop-color-preserved
loop-color-preserved c =
    let l = c.loop-color in
    let rest = take (length c.args.colors.now - 1) (drop 1 c.args.colors.now) in
    let e : drop l.color-index rest ≡ get_or rest l.color-index 0 ∷ drop (l.color-index + 1) rest =
    rw add-one (drop-cons rest l.color-index 0 c.loop-color-test.true) in
    rw (c.between-ok.ensures, c.top_level-top.ensures) (simp and_assoc (simp and_assoc at (rw (e, levels_next) at l.invariant)))

pub returns : goal.returns
unfolding levels_after above all_in
returns c =
    let l = c.loop-color in
    let rest = take (length c.args.colors.now - 1) (drop 1 c.args.colors.now) in
    let e : drop l.color-index rest ≡ [] = drop_of_length-le rest {i = l.color-index} c.loop-color-test.false in
    sym (and-true l.ok) ∙ (rw e at l.invariant)
