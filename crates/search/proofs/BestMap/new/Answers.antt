use mathlib.Core.Path.{◌≡◌, refl, ap}
use mathlib.Core.Bool.{false}
use lib.ListN.{replicate}
use lib.Ieee.{Float, inf, binary32, div, of_bits}
use Rattle.search.specs.declared.Best.{Best}
use Rattle.search.proofs.BestMap.new.Goals as goal

over_zero : div binary32 (of_bits binary32 1065353216) (of_bits binary32 0) ≡ inf false
unfolding of_bits div
over_zero = refl

-- the code's best before there is one
abbrev none_with : Float → Best
none_with total =
    let zero = of_bits binary32 0 in
    record { total = total; n = 0; colors = replicate 8 0; transposed = false; head = zero; map_bits = zero }

pub returns : goal.returns
returns c = record { is = ap none_with over_zero; cells = refl; signs = refl }
