use mathlib.Core.Path.{refl}
use lib.Ieee.{div, of_int, of_bits}
use Rattle.costs.specs.Cost.{sixteenths}
use Rattle.costs.proofs.sixteenth.Goals as goal

pub returns : goal.returns
unfolding div sixteenths of_int of_bits
returns c = rw c.from.ensures refl
