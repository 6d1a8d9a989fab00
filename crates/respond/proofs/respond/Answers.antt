use native.Mathlib.Omega.{arith}
use mathlib.Core.Path.{sym, ap, ◌∙◌}
use mathlib.Core.List.{List}
use Prim.Native.Nat.{ℕ, ◌+◌, ◌*◌, ◌≤◌}
use lib.ListN.{length}
use lib.Seq.{length-take-le}
use Rattle.lists.specs.Written.{written}
use Rattle.respond.proofs.Answered.{answer_refused, answer_listed}
use Rattle.respond.proofs.respond.Goals as goal

pub returns-then-number-ne0 : goal.returns-then-number-ne0
returns-then-number-ne0 c =
    let b = c.take_block-b in
    let start = c.args in
    let e = answer_refused start.s.now b.result b.ensures.value.0 _ c.number_of-number.ensures c.if-number-ne0.true in
    let p = c.print_refused.ensures in
    record { value = omega (arith, p.value, ap length e); out_after = p.out_after ∙ ap (λ (x : List ℕ). written start.out.now 0 x) e }

pub slice_bounds-print_listed-end : goal.slice_bounds-print_listed-end
slice_bounds-print_listed-end c =
    let b = c.take_block-b in
    sym (length-take-le b.result.calls b.new.words (omega (arith, b.ensures.value.1.calls, b.auto.words)))

pub print_listed-requires : goal.print_listed-requires
print_listed-requires c =
    let b = c.take_block-b in
    let few = b.ensures.value.1.calls in
    let n = length-take-le b.result.calls b.new.words (omega (arith, few, b.auto.words)) in
    let room : 0 + (9 + 25 * b.result.calls) ≤ length c.args.out.now = omega (arith, few, c.requires) in
    (rw n (omega (arith, few)), rw n room)

pub returns : goal.returns
returns c =
    let b = c.take_block-b in
    let start = c.args in
    let zero = c.if-number-ne0.false in
    let e = answer_listed start.s.now b.result b.ensures.value.0 _ c.number_of-number.ensures _ _ b.ensures.words_after zero in
    let p = c.print_listed.ensures in
    record { value = omega (arith, p.value, ap length e); out_after = p.out_after ∙ ap (λ (x : List ℕ). written start.out.now 0 x) e }
