-- Document 02, L5: the costs made here in the search. Proved in proofs/MadeCosts.antt.
use Rattle.std.specs.Prelude.{◌≡◌, false, List, ℕ, ◌+◌, ◌-◌, ◌*◌, ◌≤◌, ◌<◌, length, get_or, Float}
use Rattle.std.specs.Float.{nan, binary32}
use Rattle.std.specs.Float.Ieee.{add, sub}
use Rattle.lists.specs.Counted.{part, bit}
use Rattle.ieee.specs.Numbers.{nat}
use Rattle.counts.specs.Counts.{orient_sent}
use Rattle.literals.specs.Literals.{literal_bits}
use Rattle.costs.specs.Costs.{cost_in, table_costs, costs_of}
use Rattle.cells.specs.Cell.{rates_of}
use Rattle.map_search.specs.Lines.{row_cost}
use Rattle.sizes.specs.declared.Block.{Block}
use Rattle.sizes.specs.Sizes.{head_of}
use Rattle.search.specs.Search.{Searches}
use Rattle.accept.specs.declared.Palette.{Palette}

-- What the search reads from the costs of a table is the cost of the symbol that it prices: mode and size in the head, a line's flag under its
-- context, a cell's rank among n colours under its context. (Beside these it reads the least of the twelve flag costs.)
pub record ReadAsMade (table : List ℕ) : Type 0 where
  pub head : (b : Block) (colors : List ℕ) → 2 ≤ length colors → length colors ≤ 8
      → let mode = sub binary32 (cost_in (part table 0 1) 1) (cost_in (part table 0 1) 0) in
      let size = cost_in (part table 1 6) (length colors - 2) in
      let literal = nat binary32 (literal_bits b.bd colors) in
      let orientation = nat binary32 (bit (orient_sent b.width b.height)) in
      head_of (table_costs table) b colors ≡ add binary32 (add binary32 (add binary32 mode size) literal) orientation
  pub flag : (c s : ℕ) → c < 4 → s < 3 → row_cost (table_costs table) c s ≡ cost_in (part table (7 + c * 2) 2) s
  pub rank : (n c s : ℕ) → 2 ≤ n → n ≤ 8 → c < 5 → s < n
      → get_or (rates_of (table_costs table) n c false) s nan ≡ cost_in (part table (15 + ((n - 2) * 5 + c) * 7) (n - 1)) s

abbrev pub SearchReadsAsMade : Type 0
SearchReadsAsMade = (table : List ℕ) → ReadAsMade table

-- Whatever adapted table is lent, or none, a search with the costs made from it is never refused by 5.
abbrev pub MadeNeverFive : Type 0
MadeNeverFive =
    (adapted : List ℕ) (samples : List Float) (b : Block) (map₀ map flags₀ flags : List ℕ) (r : Palette)
    → Searches samples (costs_of adapted) b map₀ map flags₀ flags r → r.number ≡ 5 → ⊥
