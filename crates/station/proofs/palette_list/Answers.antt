use Rattle.listing.proofs.Answers.{count_few}
use native.Mathlib.Omega.{arith}
use mathlib.Core.Path.{refl}
use Rattle.station.proofs.palette_list.Goals as goal

pub overflow_cast-listed : goal.overflow_cast-listed
overflow_cast-listed c = omega (arith, count_few _ _ _ _ _ _ _ _ c.list-answer.ensures)

pub returns : goal.returns
returns c = let l = c.list-answer.ensures in
    record { number = l.number; fields = rw (l.count, l.width) refl; words = l.words }
