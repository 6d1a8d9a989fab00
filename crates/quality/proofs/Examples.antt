-- The definitions on a small block: levels 10, 11 and 12, one cell each. Assumes nothing.
use mathlib.Core.Path.{◌≡◌, refl}
use mathlib.Core.List.{[], ◌∷◌}
use lib.Dec.{lit<}
use lib.Ieee.{Float, add, sub, mul, div, lt, of_bits, of_int, round}
use Rattle.lists.specs.Written.{written}
use Rattle.groups.specs.declared.Histogram.{Histogram}
use Rattle.groups.specs.Histogram.{places, sum_to}
use Rattle.groups.specs.Groups.{sums_from, first_of, cost_in, chosen, cut_of, error_of}
use Rattle.quality.specs.Quality.{exact_sum, value_of, Quality}

abbrev three : Histogram
three = record {
  n = 3;
  w = places (1 ∷ 1 ∷ 1 ∷ []);
  s = places (10 ∷ 11 ∷ 12 ∷ []);
  q = places (100 ∷ 121 ∷ 144 ∷ []);
}

-- 2 in one group; in two groups 1 / 2, wherever the cut is
sums : (exact_sum three 3 (0 ∷ []) ≡ record { num = 6; den = 3 })
    × (exact_sum three 3 (1 ∷ 0 ∷ []) ≡ record { num = 1; den = 2 })
    × (exact_sum three 3 (2 ∷ 0 ∷ []) ≡ record { num = 1; den = 2 })
unfolding exact_sum sum_to written
sums = (refl, refl, refl)

-- the programme takes the earlier cut, and its error is 1 / 2
taken : (cut_of three 2 ≡ 1 ∷ 0 ∷ []) × (value_of (error_of three 2) ≡ record { num = 1; den = 2 })
unfolding written sums_from first_of cost_in chosen add sub mul div lt of_bits of_int round
taken = (refl, refl)

-- that the earlier of two equal cuts stands is the base's claim, not L9's: the later is as good
later_as_good : (x : Float) → Quality three 2 x (1 ∷ 0 ∷ []) → Quality three 2 x (2 ∷ 0 ∷ [])
later_as_good x g = record {
  sound = g.sound;
  plain = g.plain;
  divides = g.divides;
  error = g.error;
  cut = (lit< tt, (lit< tt, refl));
  choice = (λ m a. rw sums.2 (rw sums.1 at (g.choice m a)));
}
