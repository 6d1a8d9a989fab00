-- The choice among a line's candidates, as the code makes it, and what is known of the chosen one. Assumes nothing.
use Prim.Native.Nat.{ℕ, zero, suc, ◌+◌, ◌-◌, ◌≤◌, ◌<◌}
use mathlib.Core.Bool.{Bool, true, false, cond}
use mathlib.Core.Path.{◌≡◌, refl, sym, ◌∙◌}
use mathlib.Core.List.{List, [], ◌∷◌, ◌++◌}
use native.Mathlib.Omega.{arith}
use lib.Dec.{eqb}
use lib.Ieee.{Float, lt}
use borrow.Author.Tests.{eqb-false}
use Rattle.cells.specs.declared.Cost.{Cost}
use Rattle.cells.specs.Cell.{cheapest, first_cheapest, total_of}
use Rattle.cells.proofs.Cheapest.{cheapest_append, cheapest_twice, cheapest_holds, All}
use Rattle.scan.specs.declared.Scan.{Scan}
use Rattle.map_search.specs.declared.Choice.{Choice}
use Rattle.map_search.specs.Lines.{copied, constant, constants, own, candidates, line_of}
use Rattle.map_search.specs.Parts.{first, best_of}

zero_two : ◌≡◌ {A = ℕ} 0 2 → ⊥
zero_two e = omega arith

positive : (l : ℕ) → (l ≡ 0 → ⊥) → 0 < l
positive l differ = omega arith

-- what is known of a candidate of line l that is a copy or a constant
abbrev pub Plain : ℕ → ℕ → Choice → Type 0
Plain n l c = (1 ≤ c.flag) × (c.flag ≤ 2) × ((c.flag ≡ 1 → ⊥) → 0 < l) × (c.index < n)

module _ (samples costs colours : List Float) (n : ℕ) (lambda : Float) (s : Scan) (m : List ℕ) (l ctx : ℕ) where
  abbrev total : Choice → Float
  total c = total_of c.cost lambda

  abbrev copy_line : Choice
  copy_line = copied samples costs colours n lambda s m l ctx

  abbrev all_of : ℕ → Choice
  all_of c = constant samples costs colours n lambda s m l ctx c

  abbrev all_from : ℕ → ℕ → List Choice
  all_from c k = constants samples costs colours n lambda s m l ctx c k

  abbrev own_line : Choice
  own_line = own samples costs colours n lambda s m l ctx

  abbrev first_line : Choice
  first_line = first samples costs colours n lambda s m l ctx

  abbrev best : Choice
  best = best_of samples costs colours n lambda s m l ctx

  abbrev line : Choice
  line = line_of samples costs colours n lambda s m l ctx

  constants_first : (k : ℕ) → 0 < k → all_from 0 k ≡ all_of 0 ∷ all_from (0 + 1) (k - 1)
  unfolding constants
  constants_first zero some = absurd (omega arith)
  constants_first (suc k) some = let e : suc k - 1 ≡ k = omega arith in rw e refl

  module _ (some : 0 < n) where
    -- as the code goes through the candidates
    line_by : line ≡ cheapest total first_line (all_from 0 n ++ (own_line ∷ []))
    unfolding line_of candidates first_cheapest
    line_by = by_test (eqb l 0)
      where
        by_test : (t : Bool) → first_cheapest total own_line (cond t [] (copy_line ∷ []) ++ (all_from 0 n ++ (own_line ∷ [])))
            ≡ cheapest total (cond t (all_of 0) copy_line) (all_from 0 n ++ (own_line ∷ []))
        by_test true = rw (constants_first n some) (cheapest_twice total own_line (all_of 0) (all_from (0 + 1) (n - 1) ++ (own_line ∷ [])))
        by_test false = refl

    -- the last candidate against the best of the others
    line_last : line ≡ cond (lt (total own_line) (total best)) own_line best
    unfolding best_of cheapest
    line_last = line_by ∙ cheapest_append total first_line (all_from 0 n) (own_line ∷ [])

    -- the line that the code settles on
    pub settled : (cost : Cost) (other : Choice) → other ≡ best → cost ≡ own_line.cost
        → (t : Bool) → lt (total_of cost lambda) (total other) ≡ t → cond t (record { cost = cost; flag = 0; index = 0 }) other ≡ line
    settled cost other b o t e = sym (line_last ∙ rw (← b, ← o, e) refl)

  -- ---- what is known of it
  constants_plain : (c k : ℕ) → c + k ≤ n → All (Plain n l) (all_from c k)
  unfolding constants
  constants_plain c zero inside = tt
  constants_plain c (suc k) inside =
      ((omega arith, omega arith, λ other. absurd (other refl), omega arith), constants_plain (c + 1) k (omega arith))

  pub best_plain : 0 < n → Plain n l best
  unfolding best_of
  best_plain some = cheapest_holds (Plain n l) total first_line (all_from 0 n) (by_test (eqb l 0) refl) (constants_plain 0 n (omega arith))
    where
      by_test : (t : Bool) → eqb l 0 ≡ t → Plain n l (cond t (all_of 0) copy_line)
      by_test true e = (omega arith, omega arith, λ other. absurd (other refl), some)
      by_test false e = (omega arith, omega arith, λ other. positive l (eqb-false l 0 e), some)

  -- the chosen line: its flag, and its index below n
  pub line_plain : 0 < n → (line.flag ≤ 2) × (line.index < n)
  line_plain some = rw (line_last some) (by_test (lt (total own_line) (total best)) (best_plain some))
    where
      by_test : (t : Bool) → Plain n l best → ((cond t own_line best).flag ≤ 2) × ((cond t own_line best).index < n)
      by_test true plain = (omega arith, some)
      by_test false plain = (plain.1, plain.3)

  -- a copied line is not the first
  pub line_flag : 0 < n → line.flag ≡ 2 → 0 < l
  line_flag some = rw (line_last some) (by_test (lt (total own_line) (total best)) (best_plain some))
    where
      by_test : (t : Bool) → Plain n l best → (cond t own_line best).flag ≡ 2 → 0 < l
      by_test true plain e = absurd (zero_two e)
      by_test false plain e = plain.2 (λ other. omega arith)
