use mathlib.Core.Path.{◌≡◌}
use Prim.Native.Nat.{◌≤◌}
use Rattle.lists.specs.Written.{written}
use Rattle.groups.specs.Groups.{colors_of}
use Rattle.groups.proofs.Cuts.{traced}
use Rattle.groups.proofs.centers.Given as goal

-- The invariant: the colours of the g groups left, written from the front, make up the whole.
abbrev pub invariant-loop-g : goal.invariant-loop-g
invariant-loop-g l =
    (l.g ≤ l.j) × (l.j ≤ l.initial.j)
    × (written l.colors 0 (colors_of l.h.w l.h.s l.j (traced l.cuts l.g l.j))
    ≡ written l.initial.colors 0 (colors_of l.h.w l.h.s l.initial.j (traced l.cuts l.k l.initial.j)))
