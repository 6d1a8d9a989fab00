use mathlib.Core.Path.{◌≡◌, sym, ◌∙◌, subst}
use mathlib.Core.Bool.{true, false, not, and-true}
use lib.Dec.{T}
use lib.Ieee.{binary32, in_float, le, of_bits}
use borrow.Author.Tests.{le-leb}
use Rattle.lists.proofs.Choice.{and_false}
use Rattle.ieee.specs.Numbers.{nat}
use Rattle.samples.proofs.BelowZero.{number_below, sign_bits}
use Rattle.samples.proofs.in_range.Goals as goal

-- `samples::in_range` meets its contract. Assumes nothing.
pub int_to_float-top : goal.int_to_float-top
unfolding in_float
int_to_float-top c = subst T (sym (le-leb _ 16777216 c.requires)) tt

pub float_to_bits-result : goal.float_to_bits-result
float_to_bits-result c =
    subst (λ z. T (not z)) (sym (number_below c.args.x _ c.if-x-top.true)) tt

pub returns-then-x-top : goal.returns-then-x-top
returns-then-x-top c =
    let x = c.args.x in
    let below : le x (nat binary32 c.args.top) ≡ true = c.if-x-top.true in
    sign_bits x (subst T (sym c.well_formed.0.1) tt) (number_below x _ below) ∙ sym (rw below (and-true (le (of_bits binary32 0) x)))

pub returns-else-x-top : goal.returns-else-x-top
returns-else-x-top c =
    let above : le c.args.x (nat binary32 c.args.top) ≡ false = c.if-x-top.false in
    sym (rw above (and_false (le (of_bits binary32 0) c.args.x)))
