-- The choice of one cell's index, document 01, 'Line choice'. Assumes nothing.
use Rattle.std.specs.Prelude.{ℕ, suc, ◌+◌, ◌-◌, ◌*◌, Bool, true, false, cond, List, [], ◌∷◌, get_or, pos, Float}
use Rattle.std.specs.Float.{nan, binary32}
use Rattle.std.specs.Float.Ieee.{add, sub, mul, lt, of_int}
use Rattle.counts.specs.Counts.{uniform_bits}
use Rattle.cells.specs.declared.Cost.{Cost}
use Rattle.cells.specs.declared.Pick.{Pick}
use Rattle.cells.specs.declared.Cell.{Cell}

-- unrounded sample minus colour, squared
abbrev pub square : Float → Float → Float
square x c = mul binary32 (sub binary32 x c) (sub binary32 x c)

-- distance + lambda × rate
abbrev pub total_of : Cost → Float → Float
total_of c lambda = add binary32 c.dist (mul binary32 lambda c.rate)

abbrev pub plus : Cost → Cost → Cost
plus c d = record { dist = add binary32 c.dist d.dist; rate = add binary32 c.rate d.rate }

-- the first of the cheapest of a and the list: a later one wins only if strictly cheaper
unfoldable pub cheapest : {A : Type 0} → (A → Float) → A → List A → A
cheapest total a [] = a
cheapest total a (b ∷ bs) = cheapest total (cond (lt (total b) (total a)) b a) bs

-- the first of the cheapest of a list; of an empty one the given
unfoldable pub first_cheapest : {A : Type 0} → (A → Float) → A → List A → A
first_cheapest total given [] = given
first_cheapest total given (b ∷ bs) = cheapest total b bs

abbrev pub eight : (ℕ → Float) → List Float
eight f = f 0 ∷ f 1 ∷ f 2 ∷ f 3 ∷ f 4 ∷ f 5 ∷ f 6 ∷ f 7 ∷ []

-- a sample's distance from each colour
unfoldable pub squares_of : Float → List Float → List Float
squares_of x colours = eight (λ i. square x (get_or colours i nan))

-- a cell's cost by rank: uniform_bits at (0,0), else the colour cost of n, context and rank
unfoldable pub rates_of : List Float → ℕ → ℕ → Bool → List Float
rates_of costs n ctx true = eight (λ r. of_int binary32 (pos (uniform_bits r n)))
rates_of costs n ctx false = eight (λ r. get_or costs (21 + ((n - 2) * 5 + ctx) * 8 + r) nan)

module _ (dists rates : List Float) (lambda : Float) where
  -- the candidate of a rank and an index
  abbrev pub pick_at : ℕ → ℕ → Pick
  pick_at r i = record { total = add binary32 (get_or dists i nan) (mul binary32 lambda (get_or rates r nan)); rank = r; index = i }

  -- the candidates of ranks r, r + 1, ..
  unfoldable pub ranked : ℕ → List ℕ → List Pick
  ranked r [] = []
  ranked r (i ∷ is) = pick_at r i ∷ ranked (suc r) is

  -- the candidates in rank order
  unfoldable pub chosen : List ℕ → Pick
  chosen order = first_cheapest (λ p. p.total) (pick_at 0 0) (ranked 0 order)

  abbrev pub cell_by : Pick → Cell
  cell_by p = record { index = p.index; cost = record { dist = get_or dists p.index nan; rate = get_or rates p.rank nan } }

  abbrev pub cell_of : List ℕ → Cell
  cell_of order = cell_by (chosen order)
