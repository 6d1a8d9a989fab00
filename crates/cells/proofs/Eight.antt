-- The values of a list that is built from eight. Assumes nothing.
use Prim.Native.Nat.{ℕ, zero, suc, ◌<◌}
use mathlib.Core.Path.{◌≡◌, refl}
use native.Mathlib.Omega.{arith}
use lib.ListN.{get_or}
use lib.Ieee.{Float, nan}
use Rattle.cells.specs.Cell.{eight}

pub eight_at : (f : ℕ → Float) (c : ℕ) → c < 8 → get_or (eight f) c nan ≡ f c
eight_at f zero h = refl
eight_at f (suc zero) h = refl
eight_at f (suc (suc zero)) h = refl
eight_at f (suc (suc (suc zero))) h = refl
eight_at f (suc (suc (suc (suc zero)))) h = refl
eight_at f (suc (suc (suc (suc (suc zero))))) h = refl
eight_at f (suc (suc (suc (suc (suc (suc zero)))))) h = refl
eight_at f (suc (suc (suc (suc (suc (suc (suc zero))))))) h = refl
eight_at f (suc (suc (suc (suc (suc (suc (suc (suc c)))))))) h = absurd (omega arith)

-- what holds of each of the eight and of nan holds of what is read at any place
pub eight_each : (P : Float → Type 0) (f : ℕ → Float) → ((i : ℕ) → P (f i)) → P nan → (i : ℕ) → P (get_or (eight f) i nan)
eight_each P f each none zero = each 0
eight_each P f each none (suc zero) = each 1
eight_each P f each none (suc (suc zero)) = each 2
eight_each P f each none (suc (suc (suc zero))) = each 3
eight_each P f each none (suc (suc (suc (suc zero)))) = each 4
eight_each P f each none (suc (suc (suc (suc (suc zero))))) = each 5
eight_each P f each none (suc (suc (suc (suc (suc (suc zero)))))) = each 6
eight_each P f each none (suc (suc (suc (suc (suc (suc (suc zero))))))) = each 7
eight_each P f each none (suc (suc (suc (suc (suc (suc (suc (suc i)))))))) = none
