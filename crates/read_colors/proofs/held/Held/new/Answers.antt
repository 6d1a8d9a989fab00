use native.Mathlib.Omega.{arith}
use Rattle.read_colors.proofs.Inserted.{none_eight}
use Rattle.read_colors.proofs.held.Held.new.Goals as goal

pub invariant_of-result : goal.invariant_of-result
invariant_of-result c = record { few = omega arith; eight = none_eight }
