-- The number 0: every test of the search has passed. Assumes nothing.
use mathlib.Core.Path.{◌≡◌, refl}
use mathlib.Core.Bool.{Bool, true, false, cond}
use mathlib.Core.List.{List}
use Prim.Native.Nat.{ℕ, ◌*◌, max, ◌≤◌}
use native.Mathlib.Omega.{arith}
use native.Mathlib.Nat.{mul-le-mul}
use borrow.Author.Tests.{eq-eqb, ne_eqb, eqb-true, eqb-false, ltb-false, leb-true, le-leb}
use lib.Dec.{eqb, ltb, leb}
use lib.ListN.{length}
use lib.Ieee.{Float}
use Rattle.lists.proofs.Choice.{passed, held, and_l, and_r}
use Rattle.lists.proofs.Counted.{within_at}
use Rattle.accept.specs.Accepted.{sides_ok, depth_ok}
use Rattle.accept.proofs.Accepted.{sides_at}
use Rattle.context.specs.Map.{lines_of}
use Rattle.scan.proofs.Scans.{lines_most}
use Rattle.samples.specs.Samples.{lambda_ok, costs_ok, samples_ok}
use Rattle.sizes.specs.declared.Block.{Block}
use Rattle.accept.specs.Answer.{rooms_ok}
use Rattle.search.specs.Search.{histogram_in, large_ok, fault_of, levels_fault, search_number}
use Rattle.search.specs.Steps.{Passed}

-- the tests 1 to 6 have passed, and cells and lines hold a map of either orientation
pub record Ready (samples costs : List Float) (b : Block) (cells lines : ℕ) : Type 0 where
  pub wide : 1 ≤ b.width
  pub wide_most : b.width ≤ 64
  pub high : 1 ≤ b.height
  pub high_most : b.height ≤ 64
  pub deep : 8 ≤ b.bd
  pub deep_most : b.bd ≤ 12
  pub count : length samples ≡ b.width * b.height
  pub weight : lambda_ok b.lambda ≡ true
  pub priced : costs_ok costs ≡ true
  pub sampled : samples_ok b.bd samples ≡ true
  pub room : b.width * b.height ≤ cells
  pub columns : b.width ≤ lines
  pub rows : b.height ≤ lines

-- 4,096 cells and 64 lines hold every map
module _ {samples costs : List Float} {b : Block} {cells lines : ℕ} (ready : Ready samples costs b cells lines) where
  pub few_cells : b.width * b.height ≤ 4096
  few_cells = mul-le-mul ready.wide_most ready.high_most

  -- what the histogram asks
  pub countable : (8 ≤ b.bd) × (b.bd ≤ 12) × (length samples ≤ 4096) × (samples_ok b.bd samples ≡ true)
  countable = (ready.deep, ready.deep_most, omega (arith, ready.count, few_cells), ready.sampled)

  pub few_lines : (t : Bool) (count : ℕ) → count ≡ lines_of t b.width b.height → count ≤ 64
  few_lines t count is = lines_most t b.width b.height 64 is ready.wide_most ready.high_most

-- a fault that is 0 leaves what follows it; any other is the number itself
no_fault : (fault next : ℕ) → cond (eqb fault 0) next fault ≡ 0 → (fault ≡ 0) × (next ≡ 0)
no_fault fault next e = go (eqb fault 0) refl e
  where
    go : (t : Bool) → eqb fault 0 ≡ t → cond t next fault ≡ 0 → (fault ≡ 0) × (next ≡ 0)
    go true z e = (eqb-true fault 0 z, e)
    go false z e = absurd (eqb-false fault 0 z e)

-- 1 to 8
module _ {samples costs : List Float} {b : Block} {cells lines : ℕ} (p : Passed samples costs b cells lines) where
  abbrev w : ℕ
  w = b.width

  abbrev h : ℕ
  h = b.height

  tests : (sides_ok w h ≡ true) × (depth_ok b.bd ≡ true) × (eqb (length samples) (w * h) ≡ true) × (lambda_ok b.lambda ≡ true)
      × (costs_ok costs ≡ true) × (samples_ok b.bd samples ≡ true) × (rooms_ok w h cells lines ≡ true) × (large_ok w h ≡ true)
  unfolding fault_of
  tests =
      let sides = held (sides_ok w h) 0 _ p.zero in
      let depth = held (depth_ok b.bd) 1 _ sides.1 in
      let count = held (eqb (length samples) (w * h)) 2 _ depth.1 in
      let lambda = held (lambda_ok b.lambda) 3 _ count.1 in
      let prices = held (costs_ok costs) 4 _ lambda.1 in
      let values = held (samples_ok b.bd samples) 5 _ prices.1 in
      let rooms = held (rooms_ok w h cells lines) _ _ values.1 in
      let large = held (large_ok w h) 7 _ rooms.1 in
      (sides.0, depth.0, count.0, lambda.0, prices.0, values.0, rooms.0, large.0)

  pub ready_of : Ready samples costs b cells lines
  unfolding depth_ok
  ready_of =
      let within-sides = sides_at w h tests.0 in
      let within-depth = within_at 8 12 b.bd tests.1 in
      let long = leb-true (max w h) lines (and_r (leb (w * h) cells) (leb (max w h) lines) tests.6) in
      record {
        wide = within-sides.0.0;
        wide_most = within-sides.0.1;
        high = within-sides.1.0;
        high_most = within-sides.1.1;
        deep = within-depth.0;
        deep_most = within-depth.1;
        count = eqb-true (length samples) (w * h) tests.2;
        weight = tests.3;
        priced = tests.4;
        sampled = tests.5;
        room = leb-true (w * h) cells (and_l (leb (w * h) cells) (leb (max w h) lines) tests.6);
        columns = omega (arith, long);
        rows = omega (arith, long);
      }

  -- they pass with any buffers that hold every map of the block
  pub passed_with : (cells' lines' : ℕ) → w * h ≤ cells' → 64 ≤ lines' → Passed samples costs b cells' lines'
  unfolding fault_of
  passed_with cells' lines' c l =
      let t = tests in
      let longer : max w h ≤ lines' = omega (arith, ready_of.wide_most, ready_of.high_most, l) in
      let zero : fault_of samples costs b cells' lines' ≡ 0 =
      rw (t.0, t.1, t.2, t.3, t.4, t.5, le-leb (w * h) cells' c, le-leb (max w h) lines' longer, t.7) refl in
      record { zero = zero }

-- 9 and 10
pub levels_of_zero : (levels : ℕ) → levels_fault levels ≡ 0 → (2 ≤ levels) × (levels ≤ 32)
levels_of_zero levels e =
    let two = passed (ltb levels 2) 8 _ e in
    let few = passed (ltb 32 levels) 9 _ two.1 in
    (ltb-false levels 2 two.0, ltb-false 32 levels few.0)

-- the number by its two parts
module _ (samples costs : List Float) (b : Block) (cells lines fault : ℕ) (f : fault ≡ fault_of samples costs b cells lines) where
  pub number_first : (fault ≡ 0 → ⊥) → search_number samples costs b cells lines ≡ fault
  unfolding search_number
  number_first some = rw (← f, ne_eqb fault 0 some) refl

  pub number_second : (levels : ℕ) → levels ≡ levels_fault (histogram_in samples).n → fault ≡ 0
      → search_number samples costs b cells lines ≡ levels
  unfolding search_number
  number_second levels l z = rw (← f, eq-eqb fault 0 z, ← l) refl

-- all of them
pub parts_of_zero : (samples costs : List Float) (b : Block) (cells lines : ℕ) → search_number samples costs b cells lines ≡ 0
    → let n = (histogram_in samples).n in Passed samples costs b cells lines × (2 ≤ n) × (n ≤ 32)
unfolding search_number
parts_of_zero samples costs b cells lines e =
    let zeros = no_fault (fault_of samples costs b cells lines) (levels_fault (histogram_in samples).n) e in
    let n = levels_of_zero (histogram_in samples).n zeros.1 in
    (record { zero = zeros.0 }, n.0, n.1)

pub all_passed : (samples costs : List Float) (b : Block) (cells lines : ℕ) → search_number samples costs b cells lines ≡ 0
    → let n = (histogram_in samples).n in Ready samples costs b cells lines × (2 ≤ n) × (n ≤ 32)
all_passed samples costs b cells lines e =
    let p = parts_of_zero samples costs b cells lines e in (ready_of p.0, p.1, p.2)
