use native.Mathlib.Nat.{min-le_left}
use Rattle.search.proofs.Aside.{known}
use Rattle.search.proofs.Colors.{levels_in, is_histogram}
use Rattle.search.proofs.Passed.{ready_of}
use Rattle.asking.proofs.count_levels.Goals as goal

pub tables_of-programme-requires : goal.tables_of-programme-requires
tables_of-programme-requires g c =
    let levels = c.requires.h_value in (
      rw c.last_size.ensures (min-le_left 8 c.args.h.now.n),
      (levels.2, ∣ (levels_in c.args.a.now.samples.now, is_histogram (ready_of c.requires.passed) levels.0 levels.2) ∣₁),
    )

pub new-requires : goal.new-requires
new-requires g c =
    let levels = c.requires.h_value in
    known (ready_of c.requires.passed) levels.0 levels.1 levels.2 _ _ _ c.last_size.ensures c.tables_of-programme.ensures

pub invariant_of-task : goal.invariant_of-task
invariant_of-task g c = let is = c.new.ensures in record { passed = rw (is.0, is.1) c.requires.passed.zero }
