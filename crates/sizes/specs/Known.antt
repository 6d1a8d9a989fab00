-- What is known of a block when its sizes are worked out: its tests have passed, it has 2 to 32 levels, and their programme is tabled.
use Rattle.std.specs.Prelude.{◌≡◌, List, ℕ, ◌-◌, ◌^◌, min, ◌≤◌, length, get_or, Float}
use Rattle.groups.specs.declared.Histogram.{Histogram}
use Rattle.groups.specs.Histogram.{IsHistogram}
use Rattle.groups.specs.Tables.{TablesOf}
use Rattle.sizes.specs.declared.Block.{Block}

pub record Known (costs : List Float) (b : Block) (h : Histogram) (table : List Float) (cuts : List ℕ) : Type 0 where
  pub priced : length costs ≡ 301
  pub wide : b.width ≤ 64
  pub high : b.height ≤ 64
  pub deep : 8 ≤ b.bd
  pub deep_most : b.bd ≤ 12
  pub two : 2 ≤ h.n
  pub levels : List ℕ
  pub histogram : IsHistogram levels h
  pub top : (i : ℕ) → get_or levels i 0 ≤ 2 ^ b.bd - 1
  pub tables : TablesOf h (min 8 h.n) table cuts
