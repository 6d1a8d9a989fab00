-- What a loop over the first `count` elements of a slice has still to read at place i: `drop i (take count l)`; and how many
-- turns are left. Assumes nothing.
use mathlib.Core.Path.{◌≡◌, refl}
use mathlib.Core.List.{List, [], ◌∷◌}
use Prim.Native.Nat.{ℕ, suc, ◌+◌, ◌-◌, ◌<◌, ◌≤◌}
use native.Mathlib.Numerals.{add-one}
use native.Mathlib.Omega.{arith}
use lib.ListN.{length, get_or, take, drop, drop_of_length-le}
use lib.Seq.{drop-cons, get_or-take, length-take-le}

module _ (count : ℕ) (l : List ℕ) (fits : count ≤ length l) where
  pub next : (i : ℕ) → i < count → drop i (take count l) ≡ get_or l i 0 ∷ drop (i + 1) (take count l)
  next i h =
      let k : i < length (take count l) = omega (arith, length-take-le count l fits) in
      rw (drop-cons (take count l) i 0 k, get_or-take count l i 0 h, add-one) refl

  pub done : (i : ℕ) → count ≤ i → drop i (take count l) ≡ []
  done i h = drop_of_length-le (take count l) {i = i} (omega (arith, length-take-le count l fits))

-- at turn i of k: one more, or none
pub one_left : (k i : ℕ) → i < k → k - i ≡ suc (k - (i + 1))
one_left k i h = omega arith

pub none_left : (k i : ℕ) → k ≤ i → k - i ≡ 0
none_left k i h = omega arith
