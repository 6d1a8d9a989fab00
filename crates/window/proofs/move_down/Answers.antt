use Rattle.std.proofs.Common.{rules, ◌≡◌, List, ℕ, ◌≤◌, length, drop, take, sym, ◌∙◌, arith}
use native.Mathlib.Nat.{zero-add}
use Rattle.lists.specs.Written.{front, written}
use Rattle.lists.proofs.Written.{written_front}
use Rattle.window.proofs.Kept.{lent, length_moved}
use Rattle.window.proofs.move_down.Goals as goal

-- by `search` at the end: of a step behind the move it sees whether it changes anything
pub returns-clause-buf_after : goal.returns-clause-buf_after
unfolding front
returns-clause-buf_after c =
    let a = c.args in
    let buf = a.buf.now in
    let vs = drop a.at (take a.end buf) in
    let long = length_moved a.at a.end buf c.requires.0 c.requires.1 in
    let fits : length vs ≤ length buf = omega (arith, long, c.requires) in
    let whole = sym (written_front buf vs fits) in
    let moved : ◌≡◌ {A = List ℕ} c.copy_within.new.self (written buf 0 vs) =
    c.copy_within.ensures.after ∙ rw (lent a.at a.end buf c.requires.0, zero-add) (rw long at whole) in
    search (rules, moved)
