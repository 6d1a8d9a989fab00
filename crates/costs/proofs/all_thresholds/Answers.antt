use mathlib.Core.Path.{refl}
use Rattle.costs.specs.Thresholds.{threshold_table}
use Rattle.costs.proofs.all_thresholds.Goals as goal

pub returns : goal.returns
unfolding threshold_table
returns c = refl
