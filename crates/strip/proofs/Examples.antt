-- The small strips, by computation. Assumes nothing.
use mathlib.Core.Path.{refl}
use Rattle.lists.specs.Counted.{total, all_in}
use Rattle.strip.specs.Strip.{strip_number}
use Rattle.strip.specs.Examples.{Numbers, PartsOf}

pub numbers : Numbers
unfolding strip_number all_in total
numbers = (refl, refl, refl, refl, refl, refl, refl, refl, refl, refl, refl, refl, refl, refl)

pub parts_of : PartsOf
unfolding total
parts_of = (refl, refl, refl, refl)
