use mathlib.Core.Path.{refl, sym, ◌∙◌}
use Rattle.lists.specs.Counted.{all_in}
use Rattle.color_ctx.specs.Parts.{three_at}
use Rattle.color_ctx.proofs.Parts.{found_is, none_is}
use Rattle.color_ctx.proofs.from_three.Goals as goal

pub returns-in_err-l : goal.returns-in_err-l
unfolding three_at all_in
returns-in_err-l c =
    let a = c.args in
    let lost = none_is a.map.now a.n a.left c.neighbour_at.ensures c.in_err-l.was in
    rw (c.from_residual.ensures, lost) refl

pub returns-in_err-t : goal.returns-in_err-t
unfolding three_at all_in
returns-in_err-t c =
    let a = c.args in
    let left = found_is a.map.now a.n a.left c.neighbour_at.ensures _ c.in_ok-l.was in
    let lost = none_is a.map.now a.n a.top c.neighbour_at-2.ensures c.in_err-t.was in
    rw (c.from_residual-in_err-t.ensures, left.0, lost) refl

pub returns-in_err-d : goal.returns-in_err-d
unfolding three_at all_in
returns-in_err-d c =
    let a = c.args in
    let left = found_is a.map.now a.n a.left c.neighbour_at.ensures _ c.in_ok-l.was in
    let top = found_is a.map.now a.n a.top c.neighbour_at-2.ensures _ c.in_ok-t.was in
    let lost = none_is a.map.now a.n a.diag c.neighbour_at-3.ensures c.in_err-d.was in
    rw (c.from_residual-in_err-d.ensures, left.0, top.0, lost) refl

pub answer-requires : goal.answer-requires
answer-requires c =
    let a = c.args in (
      (found_is a.map.now a.n a.left c.neighbour_at.ensures _ c.in_ok-l.was).2,
      (found_is a.map.now a.n a.top c.neighbour_at-2.ensures _ c.in_ok-t.was).2,
      (found_is a.map.now a.n a.diag c.neighbour_at-3.ensures _ c.in_ok-d.was).2,
      c.requires,
    )

pub returns : goal.returns
unfolding three_at all_in
returns c =
    let a = c.args in
    let l = found_is a.map.now a.n a.left c.neighbour_at.ensures _ c.in_ok-l.was in
    let t = found_is a.map.now a.n a.top c.neighbour_at-2.ensures _ c.in_ok-t.was in
    let d = found_is a.map.now a.n a.diag c.neighbour_at-3.ensures _ c.in_ok-d.was in
    c.answer.ensures ∙ sym (rw (l.0, t.0, d.0, l.1, t.1, d.1) refl)
