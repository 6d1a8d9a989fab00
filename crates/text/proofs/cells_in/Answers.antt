use native.Mathlib.Omega.{arith}
use mathlib.Core.Path.{refl}
use Rattle.text.proofs.Sound.{cells_small}
use Rattle.text.proofs.cells_in.Goals as goal

pub overflow_mul-result : goal.overflow_mul-result
overflow_mul-result c = omega (arith, cells_small c.args.h c.requires)

pub returns : goal.returns
returns c = (refl, cells_small c.args.h c.requires)
