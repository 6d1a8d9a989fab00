-- The definitions, on small blocks.
use mathlib.Core.Path.{◌≡◌, refl}
use mathlib.Core.List.{List, [], ◌∷◌, ◌++◌}
use Prim.Native.Nat.{ℕ}
use lib.ListN.{replicate}
use lib.Ieee.{add, sub, mul, div, lt, of_bits, of_int, round}
use Rattle.lists.specs.Counted.{up_to}
use Rattle.lists.specs.Written.{written}
use Rattle.groups.specs.Histogram.{occurs, sum_to, levels_of, histogram_of}
use Rattle.groups.specs.Groups.{sums_from, first_of, cost_in, chosen, colors_of, cut_of, centers_of}

three : List ℕ
three = 12 ∷ 10 ∷ 11 ∷ []

levels : levels_of three ≡ 10 ∷ 11 ∷ 12 ∷ []
unfolding three up_to occurs
levels = refl

-- 10 | 11, 12 and 10, 11 | 12 cost one half each: the earlier cut stands
ties : (cut_of (histogram_of three) 2 ≡ 1 ∷ 0 ∷ []) × (centers_of (histogram_of three) 2 ≡ 10 ∷ 12 ∷ [])
unfolding three up_to occurs written histogram_of sum_to sums_from first_of cost_in chosen colors_of
    add sub mul div lt of_bits of_int round
ties = (refl, refl)

-- 1, fourteen 2s and 3: both cuts cost 14 / 15, but the later one is cheaper in f64
later : centers_of (histogram_of (1 ∷ replicate 14 2 ++ (3 ∷ []))) 2 ≡ 2 ∷ 3 ∷ []
unfolding up_to occurs written histogram_of sum_to sums_from first_of cost_in chosen colors_of add sub mul div lt of_bits of_int round
later = refl
