use mathlib.Core.Path.{sym}
use Rattle.search.proofs.Passed.{ready_of, countable, levels_of_zero}
use Rattle.asking.proofs.count_block.Goals as goal

pub histogram_of-h-requires : goal.histogram_of-h-requires
histogram_of-h-requires g c = countable (ready_of (record { zero = sym c.in-Ok.ensures }))

pub count_levels-requires : goal.count_levels-requires
count_levels-requires g c =
    let few = levels_of_zero _ (sym c.in-Ok-levels_fault.ensures) in
    record { passed = record { zero = sym c.in-Ok.ensures }; h_value = (c.histogram_of-h.ensures, few.0, few.1) }
