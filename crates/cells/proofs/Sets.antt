-- Two cells, or two costs, are equal in at most one way: so a law that ends in such an equation may use a truncated fact.
use Prim.Native.Nat.{ℕ}
use mathlib.Core.Path.{◌≡◌, refl}
use base.Stored.{Coded, Coded-set, coded_ℕ, coded_float, coded×}
use lib.Ieee.{Float}
use denote.Struct.Codes.{code_by}
use Rattle.cells.specs.declared.Cost.{Cost}
use Rattle.cells.specs.declared.Cell.{Cell}

pub cost_code : Coded Cost
cost_code =
    code_by (Float × Float) (coded× coded_float coded_float) (λ c. (c.dist, c.rate)) (λ t. record { dist = t.0; rate = t.1 }) (λ c. refl)

pub cell_code : Coded Cell
cell_code =
    code_by (ℕ × Cost) (coded× coded_ℕ cost_code) (λ c. (c.index, c.cost)) (λ t. record { index = t.0; cost = t.1 }) (λ c. refl)

pub cell_set : (a b : Cell) → IsProp (a ≡ b)
cell_set a b = Coded-set cell_code a b
