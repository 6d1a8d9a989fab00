use Rattle.near.specs.Near.{Below}
use Rattle.guess_map.proofs.Guess.put_line.Given as goal

abbrev pub invariant-loop-a : goal.invariant-loop-a
invariant-loop-a l = Below l.map 8
