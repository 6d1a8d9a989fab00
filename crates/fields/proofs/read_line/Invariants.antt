use Rattle.std.proofs.Common.{◌≡◌, ◌+◌, ◌*◌, ◌-◌, map}
use Rattle.lists.specs.Written.{written}
use Rattle.fields.specs.Fields.{line_numbers}
use Rattle.fields.proofs.read_line.Given as goal

abbrev pub invariant-loop-i : goal.invariant-loop-i
invariant-loop-i g l =
    written l.out (l.from + l.i) (map g.T.Stored.stored (line_numbers l.s (l.at + 8 * l.i) (l.k - l.i)))
    ≡ written l.initial.out l.from (map g.T.Stored.stored (line_numbers l.s l.at l.k))
