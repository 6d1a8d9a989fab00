use Rattle.std.proofs.Common.{◌≡◌, ◌++◌, take, drop}
use Rattle.listing.specs.Listing.{values_of}
use Rattle.listing.proofs.fill_values.Given as goal

abbrev pub invariant-loop-i : goal.invariant-loop-i
invariant-loop-i l = l.values ≡ values_of l.colors (take l.i l.map) ++ drop l.i l.initial.values
