-- The cells may stop once their total has reached the limit: totals only grow. Assumes nothing.
use Prim.Native.Nat.{ℕ, zero, suc, ◌+◌, ◌*◌, ◌-◌, ◌^◌, ◌≤◌}
use mathlib.Core.Bool.{Bool, true, false, true≢false}
use mathlib.Core.Path.{◌≡◌, refl, sym, ap, ◌∙◌}
use mathlib.Core.Logic.{◌⊎◌, inl, inr}
use mathlib.Core.List.{List}
use native.Mathlib.Omega.{arith}
use native.Mathlib.Nat.{zero-lt-suc, eq-or-lt_of_le, le_of_suc-le-suc}
use lib.Dec.{T}
use lib.IntN.{pos}
use lib.ListN.{get_or}
use lib.Ieee.{Float, nan, binary32, sub, lt, le, fits, of_bits, of_int}
use lib.Ieee.Fits.{add-fits}
use Rattle.ieee.specs.Bounds.{NotNeg}
use Rattle.ieee.proofs.Grows.{Grows, grows_refl, grows_trans, stays}
use Rattle.ieee.proofs.Signs.{round_not_neg, add_not_neg, square_not_neg, mul_not_neg}
use Rattle.ieee.proofs.Monotone.{add_self, total_grows}
use Rattle.counts.specs.Counts.{uniform_bits}
use Rattle.cells.specs.declared.Cost.{Cost}
use Rattle.cells.specs.Cell.{square, total_of, squares_of, rates_of}
use Rattle.cells.proofs.Eight.{eight_each}
use Rattle.map_search.specs.declared.Choice.{Choice}
use Rattle.cells.specs.Sure.{Priced}
use Rattle.scan.specs.declared.Scan.{Scan}
use Rattle.map_search.specs.Lines.{Cells, cell_at, cells_of, row_cost, line_of, put_line}
use Rattle.map_search.specs.Parts.{best_of, Halted}
use Rattle.map_search.proofs.LineChoice.{settled}
use Rattle.map_search.proofs.PutLine.{put_own}

-- ---- no square and no rate is negative
squares_plus : (x : Float) (colours : List Float) (i : ℕ) → NotNeg (get_or (squares_of x colours) i nan)
unfolding squares_of
squares_plus x colours i =
    eight_each NotNeg (λ j. square x (get_or colours j nan)) (λ j. square_not_neg binary32 (sub binary32 x (get_or colours j nan))) tt i

whole_plus : (k : ℕ) → NotNeg (of_int binary32 (pos k))
unfolding of_int
whole_plus k = round_not_neg binary32 false k 1 (zero-lt-suc 0) (inl refl)

rates_plus : (costs : List Float) (n ctx : ℕ) (first : Bool) → ((i : ℕ) → NotNeg (get_or costs i nan))
    → (r : ℕ) → NotNeg (get_or (rates_of costs n ctx first) r nan)
unfolding rates_of
rates_plus costs n ctx true plus r = eight_each NotNeg (λ k. of_int binary32 (pos (uniform_bits k n))) (λ k. whole_plus (uniform_bits k n)) tt r
rates_plus costs n ctx false plus r =
    let at : ℕ → ℕ = λ k. 21 + ((n - 2) * 5 + ctx) * 8 + k in
    eight_each NotNeg (λ k. get_or costs (at k) nan) (λ k. plus (at k)) tt r

zero_sum : NotNeg (of_bits binary32 0)
unfolding of_bits
zero_sum = inl refl

zero_fits : T (fits binary32 (of_bits binary32 0))
unfolding of_bits fits
zero_fits = tt

-- what grows by each step grows by several
climb : (f : ℕ → Float) → ((k : ℕ) → Grows (f k) (f (suc k))) → (k j : ℕ) → k ≤ j → Grows (f k) (f j)
climb f step k zero h = let e : k ≡ 0 = omega arith in rw e (grows_refl (f 0))
climb f step k (suc j) h = elim (eq-or-lt_of_le h) [
  | inl e ↦ rw e (grows_refl (f (suc j)))
  | inr p ↦ grows_trans (f k) (f j) (f (suc j)) (climb f step k j (le_of_suc-le-suc p)) (step j)
]

module _ (samples costs colours : List Float) (n : ℕ) (lambda : Float) (s : Scan) (priced : Priced costs lambda)
    (m : List ℕ) (l : ℕ) (row : Float) (row-plus : NotNeg row) (row_fits : T (fits binary32 row)) where
  -- the cost of the first k cells
  abbrev paid : ℕ → Cost
  paid k = (cells_of samples costs colours n lambda s m l row k).cost

  dist_plus : (k : ℕ) → NotNeg (paid k).dist
  unfolding cells_of cell_at
  dist_plus zero = zero_sum
  dist_plus (suc k) = add_not_neg binary32 _ _ (dist_plus k) (squares_plus _ colours _)

  rate_plus : (k : ℕ) → NotNeg (paid k).rate
  unfolding cells_of cell_at
  rate_plus zero = row-plus
  rate_plus (suc k) = add_not_neg binary32 _ _ (rate_plus k) (rates_plus costs n _ _ priced.plus _)

  dist_fits : (k : ℕ) → T (fits binary32 (paid k).dist)
  unfolding cells_of cell_at
  dist_fits zero = zero_fits
  dist_fits (suc k) = add-fits binary32 _ _

  rate_fits : (k : ℕ) → T (fits binary32 (paid k).rate)
  unfolding cells_of cell_at
  rate_fits zero = row_fits
  rate_fits (suc k) = add-fits binary32 _ _

  dist_step : (k : ℕ) → Grows (paid k).dist (paid (suc k)).dist
  unfolding cells_of cell_at
  dist_step k = add_self binary32 _ _ (dist_plus k) (squares_plus _ colours _) (dist_fits k)

  rate_step : (k : ℕ) → Grows (paid k).rate (paid (suc k)).rate
  unfolding cells_of cell_at
  rate_step k = add_self binary32 _ _ (rate_plus k) (rates_plus costs n _ _ priced.plus _) (rate_fits k)

  total_plus : (k : ℕ) → NotNeg (total_of (paid k) lambda)
  total_plus k = add_not_neg binary32 _ _ (dist_plus k) (mul_not_neg binary32 lambda _ priced.mild.1 (rate_plus k))

  -- once the limit is reached it stays so
  pub never_wins : (limit : Float) (k j : ℕ) → k ≤ j → le limit (total_of (paid k) lambda) ≡ true → lt (total_of (paid j) lambda) limit ≡ false
  never_wins limit k j h e =
      stays limit _ _ e (total_plus k) (total_plus j)
      (total_grows binary32 lambda _ _ _ _ (2 ^ 20) priced.mild (dist_plus k) (dist_plus j) (rate_plus k) (rate_plus j)
      (climb (λ i. (paid i).dist) dist_step k j h) (climb (λ i. (paid i).rate) rate_step k j h))

-- what the code settles on, with cells that may have stopped: their cost and map against the other candidate
module _ (samples costs colours : List Float) (n : ℕ) (lambda : Float) (s : Scan) (priced : Priced costs lambda) (two : 2 ≤ n)
    (m : List ℕ) (l ctx : ℕ) (cost : Cost) (other : Choice) (map : List ℕ) (limit : Float)
    (is-best : other ≡ best_of samples costs colours n lambda s m l ctx) (is-limit : limit ≡ total_of other.cost lambda)
    (halted : Halted samples costs colours n lambda s m l (row_cost costs ctx 0) limit cost map) where
  abbrev cells : ℕ → Cells
  cells k = cells_of samples costs colours n lambda s m l (row_cost costs ctx 0) k

  abbrev own : Choice
  own = record { cost = cost; flag = 0; index = 0 }

  abbrev line : Choice
  line = line_of samples costs colours n lambda s m l ctx

  reached : le limit (total_of cost lambda) ≡ true → (j : ℕ) → halted.cells ≤ j → lt (total_of (cells j).cost lambda) limit ≡ false
  reached r j h =
      never_wins samples costs colours n lambda s priced m l (row_cost costs ctx 0) (priced.plus _) halted.held limit halted.cells j h
      (rw halted.cost at r)

  whole : halted.cells ≡ s.len → cost ≡ (cells s.len).cost
  whole e = halted.cost ∙ ap (λ (k : ℕ). (cells k).cost) e

  pub own_wins : lt (total_of cost lambda) limit ≡ true → (own ≡ line) × (map ≡ put_line samples costs colours n lambda s m l ctx own)
  own_wins less = by_reason halted.why
    where
      by_reason : (halted.cells ≡ s.len) ⊎ (le limit (total_of cost lambda) ≡ true)
          → (own ≡ line) × (map ≡ put_line samples costs colours n lambda s m l ctx own)
      by_reason (inl e) = (
        settled samples costs colours n lambda s m l ctx (omega arith) cost other is-best (whole e) true (rw is-limit at less),
        halted.put ∙ ap (λ (k : ℕ). (cells k).map) e ∙ put_own samples costs colours n lambda s m l ctx cost,
      )
      by_reason (inr r) = absurd (true≢false (sym less ∙ (rw (← halted.cost) at (reached r halted.cells (omega arith)))))

  pub own_loses : lt (total_of cost lambda) limit ≡ false → other ≡ line
  own_loses not-less =
      settled samples costs colours n lambda s m l ctx (omega arith) (cells s.len).cost other is-best refl false
      (rw is-limit at (by_reason halted.why))
    where
      by_reason : (halted.cells ≡ s.len) ⊎ (le limit (total_of cost lambda) ≡ true) → lt (total_of (cells s.len).cost lambda) limit ≡ false
      by_reason (inl e) = rw (whole e) at not-less
      by_reason (inr r) = reached r s.len halted.few
