-- Document 01, 'Modules, leaves first', 1: row [n - 2][context] of COLOR_ICDF has n - 1 numbers strictly falling between
-- 32,767 and 1, then zeros.
use Rattle.std.specs.Prelude.{ℕ, ◌+◌, ◌≤◌, ◌<◌, ◌≡◌}
use Rattle.tables.specs.Icdf.{color_icdf}

pub record RowRule (n context : ℕ) : Type 0 where
  pub most : (k : ℕ) → k + 1 < n → color_icdf n context k ≤ 32767
  pub least : (k : ℕ) → k + 1 < n → 1 ≤ color_icdf n context k
  pub falls : (k : ℕ) → k + 2 < n → color_icdf n context (k + 1) < color_icdf n context k
  pub zeros : (k : ℕ) → n ≤ k + 1 → color_icdf n context k ≡ 0
