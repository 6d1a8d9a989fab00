use mathlib.Core.Path.{refl}
use Rattle.sizes.specs.Order.{those}
use Rattle.sizes.proofs.open_sizes.Goals as goal

pub returns : goal.returns
unfolding those
returns c = refl
