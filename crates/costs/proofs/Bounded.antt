-- Each cost is c / 16 exactly and within 0..15, so the answer passes test 5 of the search. Assumes nothing.
use mathlib.Core.Path.{◌≡◌, refl}
use mathlib.Core.Bool.{Bool, true, ◌&&◌}
use mathlib.Core.List.{List, [], ◌∷◌, ◌++◌}
use Prim.Native.Nat.{ℕ, zero, suc, ◌+◌, ◌*◌, ◌≤◌}
use native.Mathlib.Omega.{arith}
use lib.Dec.{eqb, leb}
use lib.ListN.{length, replicate}
use lib.Ieee.{Float, binary32, le, div, of_bits, of_int}
use lib.Ieee.Positive.{num, den}
use borrow.Author.Tests.{eqb-true, eq-eqb}
use Rattle.lists.specs.Counted.{part, up_to, all_below}
use Rattle.lists.proofs.Choice.{and_l, and_r, and_both, either_way}
use Rattle.lists.proofs.Counted.{all_below_at}
use Rattle.samples.specs.Samples.{in_range, all_in_range}
use Rattle.costs.specs.Cost.{cost_of, sixteenths}
use Rattle.costs.specs.Rows.{row_at, chance_of, defaults}
use Rattle.costs.specs.Costs.{cost_in, row_costs, table_of, table_costs, costs_number, costs_of}
use Rattle.costs.specs.Made as made
use Rattle.costs.proofs.Largest.{cost_most}
use Rattle.costs.proofs.Placed.{count}

-- within 0..15 and 0..32
abbrev near : Float → Bool
near x = in_range 15 x && in_range 32 x

abbrev sound : ℕ → Bool
sound c = near (sixteenths c) && eqb (16 * num (sixteenths c)) (c * den (sixteenths c))

all : all_below sound 241 ≡ true
unfolding all_below sixteenths le of_bits div of_int
all = refl

nothing : near (of_bits binary32 0) ≡ true
unfolding le of_bits of_int
nothing = refl

at : (c : ℕ) → c ≤ 240 → sound c ≡ true
at c h = all_below_at sound 241 all c (omega arith)

pub exact : made.SixteenthsExact
exact c h =
    let x = sixteenths c in
    (and_l _ (in_range 32 x) (and_l _ (eqb (16 * num x) (c * den x)) (at c h)), eqb-true _ _ (and_r (near x) _ (at c h)))

cost_near : (row : List ℕ) (s : ℕ) → near (cost_in row s) ≡ true
unfolding cost_in
cost_near row s =
    let c = cost_of (chance_of row s) in
    either_way (λ x. near x ≡ true) (leb s (length row)) (sixteenths c) (of_bits binary32 0)
    (and_l _ (eqb (16 * num (sixteenths c)) (c * den (sixteenths c))) (at c (cost_most (chance_of row s))))
    nothing

range_append : (top : ℕ) (xs ys : List Float) → all_in_range top xs ≡ true → all_in_range top ys ≡ true → all_in_range top (xs ++ ys) ≡ true
unfolding all_in_range
range_append top [] ys a b = b
range_append top (x ∷ xs) ys a b =
    and_both (in_range top x) (all_in_range top (xs ++ ys)) (and_l (in_range top x) (all_in_range top xs) a)
    (range_append top xs ys (and_r (in_range top x) (all_in_range top xs) a) b)

range_up_to : (top : ℕ) (f : ℕ → List Float) (n : ℕ) → ((k : ℕ) → all_in_range top (f k) ≡ true) → all_in_range top (up_to f n) ≡ true
unfolding all_in_range up_to
range_up_to top f zero g = refl
range_up_to top f (suc n) g = range_append top (up_to f n) (f n) (range_up_to top f n g) (g n)

-- the costs of a table are in a range that each cost is in
module _ (top : ℕ) (each_in : (row : List ℕ) (s : ℕ) → in_range top (cost_in row s) ≡ true) where
  one : (row : List ℕ) (s : ℕ) → all_in_range top (cost_in row s ∷ []) ≡ true
  unfolding all_in_range
  one row s = and_both (in_range top (cost_in row s)) true (each_in row s) refl

  table_in : (table : List ℕ) → all_in_range top (table_costs table) ≡ true
  unfolding table_costs row_costs
  table_in table =
      range_up_to top (row_costs table) 41
      (λ r. let row = part table (row_at r).at (row_at r).used in range_up_to top (λ s. cost_in row s ∷ []) ((row_at r).room + 1) (one row))

zeros_in : all_in_range 15 (replicate 301 (of_bits binary32 0)) && all_in_range 32 (replicate 301 (of_bits binary32 0)) ≡ true
unfolding all_in_range le of_bits of_int
zeros_in = refl

pub always_bounded : made.AlwaysBounded
unfolding costs_of
always_bounded adapted =
    let zeros = replicate 301 (of_bits binary32 0) in
    let table = table_of adapted defaults in
    either_way (λ l. made.Bounded l) (eqb (costs_number adapted) 0) (table_costs table) zeros
    (record {
      range = table_in 15 (λ row s. and_l _ (in_range 32 (cost_in row s)) (cost_near row s)) table;
      passes = and_both (eqb (length (table_costs table)) 301) (all_in_range 32 (table_costs table)) (eq-eqb _ 301 (count table))
          (table_in 32 (λ row s. and_r (in_range 15 (cost_in row s)) _ (cost_near row s)) table);
    })
    (record { range = and_l _ (all_in_range 32 zeros) zeros_in; passes = and_r (all_in_range 15 zeros) _ zeros_in })
