use mathlib.Core.Path.{◌≡◌, refl}
use Prim.Native.Nat.{◌+◌, ◌≤◌}
use native.Mathlib.Omega.{arith}
use Rattle.literals.specs.Literals.{literal_bits}
use Rattle.literals.proofs.Colors.{none_at_all, one_width, all_widths}
use Rattle.literals.proofs.Widths.{literal_bits_le}
use Rattle.literals.proofs.literal_bits.Goals as goal
use Rattle.literals.proofs.literal_bits.Goals.{After-steps_width}

total : (c : After-steps_width) → c.args.bd + 2 + c.steps_width.result ≡ literal_bits c.args.bd c.args.colors.now
total c = rw (c.steps_width.ensures, c.step_bits.ensures.0, all_widths c.args.bd c.args.colors.now c.in-len1-up.len_at_least) refl

small : (c : After-steps_width) → c.args.bd + 2 + c.steps_width.result ≤ 98
small c = omega (arith, total c, c.requires, literal_bits_le c.args.bd c.requires.2 c.args.colors.now c.requires.3)

pub overflow_add-result-in-len1-up : goal.overflow_add-result-in-len1-up
overflow_add-result-in-len1-up c = omega (arith, small c)

pub returns-in-empty : goal.returns-in-empty
unfolding literal_bits
returns-in-empty c = rw (none_at_all c.args.colors.now c.in-empty.len_below) (refl, omega arith)

pub returns-in-len1 : goal.returns-in-len1
returns-in-len1 c = rw (one_width c.args.bd c.args.colors.now c.in-len1.len_at_least c.in-len1.len_below) (refl, omega (arith, c.requires))

pub returns-in-len1-up : goal.returns-in-len1-up
returns-in-len1-up c = (total c, small c)
