use Rattle.near.specs.Near.{Below}
use Rattle.guess_map.proofs.guess_lines.Given as goal

abbrev pub invariant-loop-l : goal.invariant-loop-l
invariant-loop-l l = Below l.map 8
