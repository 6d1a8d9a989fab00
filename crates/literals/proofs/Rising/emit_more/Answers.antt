use mathlib.Core.Path.{◌≡◌, refl, sym, ap, ◌∙◌}
use Prim.Native.Nat.{◌+◌, ◌≤◌, ◌<◌}
use native.Mathlib.Omega.{arith}
use lib.ListN.{length}
use borrow.Author.Tests.{eqb-true, eqb-false}
use Rattle.lists.specs.Written.{written}
use Rattle.literals.specs.Literals.{step_words}
use Rattle.literals.proofs.Colors.{no_more, some_more}
use Rattle.literals.proofs.Rising.emit_more.Goals as goal

pub returns-then-is_empty : goal.returns-then-is_empty
unfolding written
returns-then-is_empty c =
    let s = c.args.self.now in
    let none = no_more s.bd s.first.0 s.rest.now (eqb-true _ 0 (sym c.if-is_empty.ensures)) in
    record { value = rw none (omega arith); out_after = rw none refl }

pub put_bypass-next-requires : goal.put_bypass-next-requires
put_bypass-next-requires c =
    let s = c.args.self.now in
    let some : 0 < length s.rest.now = omega (arith, eqb-false _ 0 (sym c.if-is_empty.ensures)) in
    let words = some_more s.bd s.first.0 s.rest.now some in
    let space : c.args.at < length c.args.out.now = omega (arith, c.requires, ap length words) in
    (omega arith, omega (arith, c.step_bits-b.ensures.2, s.depth), space)

pub emit_steps-requires : goal.emit_steps-requires
emit_steps-requires c =
    let s = c.args.self.now in
    let b = c.step_bits-b in
    let put = c.put_bypass-next in
    let some : 0 < length s.rest.now = omega (arith, eqb-false _ 0 (sym c.if-is_empty.ensures)) in
    let words = some_more s.bd s.first.0 s.rest.now some in
    let kept : length put.new.out ≡ length c.args.out.now = put.auto.out in
    let space : put.result + length (step_words s.bd b.result s.first.0 s.rest.now) ≤ length put.new.out =
    rw b.ensures.0 (omega (arith, put.ensures.0, ap length words, c.requires, kept)) in
    record { first_bound = b.ensures.2; colors_in_bounds = space }

pub returns : goal.returns
unfolding written
returns c =
    let s = c.args.self.now in
    let b = c.step_bits-b in
    let put = c.put_bypass-next in
    let rest = c.emit_steps in
    let some : 0 < length s.rest.now = omega (arith, eqb-false _ 0 (sym c.if-is_empty.ensures)) in
    let words = some_more s.bd s.first.0 s.rest.now some in
    rw (words, ← b.ensures.0)
    (record { value = omega (arith, rest.ensures.value, put.ensures.0); out_after = rest.ensures.out_after ∙ rw (put.ensures.1, put.ensures.0) refl })
