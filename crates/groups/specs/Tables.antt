-- The programme's two tables, in rows of 33: row k, column j is for the first j levels in k groups.
use Rattle.std.specs.Prelude.{◌≡◌, List, ℕ, suc, ◌+◌, ◌*◌, ◌≤◌, ◌<◌, length, get_or, Float}
use Rattle.std.specs.Float.{nan}
use Rattle.groups.specs.declared.Histogram.{Histogram}
use Rattle.groups.specs.Groups.{best_of, cost_in, cut_in, prefix_of, cut_to}

-- the row of a table that starts at base
abbrev pub row_at : List Float → ℕ → ℕ → Float
row_at cost base i = get_or cost (base + i) nan

module _ (pw ps pq : List Float) where
  -- row k + 1 is filled up to column j, from row k; all before the row is as it was
  pub record Filled (k j : ℕ) (cost₀ cost : List Float) (cut₀ cut : List ℕ) : Type 0 where
    pub len : length cost ≡ length cost₀
    pub len_cuts : length cut ≡ length cut₀
    pub costs : (i : ℕ) → i < j → get_or cost (k * 33 + 33 + i) nan ≡ (best_of pw ps pq (row_at cost₀ (k * 33)) k i).cost
    pub cuts : (i : ℕ) → i < j → get_or cut (k * 33 + 33 + i) 0 ≡ (best_of pw ps pq (row_at cost₀ (k * 33)) k i).cut
    pub kept : (m : ℕ) → m < k * 33 + 33 → get_or cost m nan ≡ get_or cost₀ m nan
    pub kept_cuts : (m : ℕ) → m < k * 33 + 33 → get_or cut m 0 ≡ get_or cut₀ m 0

  -- up to row K there are the costs, and from row 1 on the cuts
  pub record Tabled (n K : ℕ) (cost : List Float) (cut : List ℕ) : Type 0 where
    pub costs : (k j : ℕ) → k ≤ K → j ≤ n → get_or cost (k * 33 + j) nan ≡ cost_in pw ps pq k j
    pub cuts : (k j : ℕ) → suc k ≤ K → j ≤ n → get_or cut (k * 33 + 33 + j) 0 ≡ cut_in pw ps pq k j

-- of a histogram
abbrev pub TablesOf : Histogram → ℕ → List Float → List ℕ → Type 0
TablesOf h K cost cut = Tabled (prefix_of h.w) (prefix_of h.s) (prefix_of h.q) h.n K cost cut

abbrev pub CutsOf : Histogram → ℕ → List ℕ → Type 0
CutsOf h K cut = (k j : ℕ) → suc k ≤ K → j ≤ h.n → get_or cut (k * 33 + 33 + j) 0 ≡ cut_to h k j
