use mathlib.Core.Path.{refl}
use Rattle.blocks.proofs.refuse.Goals as goal

pub returns : goal.returns
returns c = refl
