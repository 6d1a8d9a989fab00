use Prim.Native.Nat.{◌<◌}
use Rattle.near.specs.Near.{Below}
use Rattle.guess_map.proofs.Guess.first_line.Given as goal

abbrev pub invariant-loop-a : goal.invariant-loop-a
invariant-loop-a l = Below l.map 8 × (l.index.0 < 8)
