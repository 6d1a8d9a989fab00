use native.Mathlib.Omega.{arith}
use mathlib.Core.Path.{◌≡◌, refl, ◌∙◌}
use mathlib.Core.List.{◌∷◌}
use Prim.Native.Nat.{◌+◌}
use lib.ListN.{get_or, drop, drop_of_length-le}
use lib.Seq.{drop-cons}
use Rattle.lists.specs.Written.{written}
use Rattle.printing.specs.Printing.{call_line, call_lines}
use Rattle.lists.proofs.Written.{then}
use Rattle.printing.proofs.Laws.{length_call}
use native.Mathlib.Numerals.{add-one}
use Rattle.printing.proofs.print_calls.Goals as goal

pub loop-call-init : goal.loop-call-init
loop-call-init c = (omega arith, refl)

pub loop-call-preserved : goal.loop-call-preserved
unfolding call_lines
loop-call-preserved c =
    let l = c.loop-call in
    let calls = c.args.calls.now in
    let e = c.print_call-pos.ensures in
    let next : drop l.call-index calls ≡ get_or calls l.call-index 0 ∷ drop (l.call-index + 1) calls =
    rw add-one (drop-cons calls l.call-index 0 c.loop-call-test.true) in (
      omega (arith, e.value, l.invariant.0),
      then l.out _ l.pos _ (call_line (get_or calls l.call-index 0)) _ e.out_after (omega (arith, e.value, length_call (get_or calls l.call-index 0)))
          ∙ (rw next at l.invariant.1),
    )

pub returns : goal.returns
unfolding written call_lines
returns c =
    let l = c.loop-call in
    let none = drop_of_length-le c.args.calls.now {i = l.call-index} c.loop-call-test.false in
    record { value = omega arith; out_after = rw none at l.invariant.1 }
