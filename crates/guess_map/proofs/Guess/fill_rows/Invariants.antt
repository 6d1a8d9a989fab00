use Rattle.near.specs.Near.{Below}
use Rattle.guess_map.proofs.Guess.fill_rows.Given as goal

abbrev pub invariant-loop-a : goal.invariant-loop-a
invariant-loop-a l = Below l.rows 1024
