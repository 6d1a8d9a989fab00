-- The order in which a map's lines are walked: document 01, 'Map'. The search and the reading of a map fill its lines by it.
use Rattle.std.specs.Prelude.{ℕ, zero, suc, ◌+◌, ◌*◌, ◌≤◌, ◌<◌, Bool, true, false, ◌≡◌, List, get_or, set}
use Rattle.context.specs.Map.{row_at, col_at}
use Rattle.context.specs.Order.{Around, by_three, around}
use Rattle.near.specs.declared.Key.{Key}
use Rattle.near.specs.Near.{key_at}
use Rattle.scan.specs.declared.Scan.{Scan}

-- lines are rows, or columns when transposed
abbrev pub scan_of : ℕ → ℕ → Bool → Scan
scan_of w h false = record { w = w; stride = w; step = 1; lines = h; len = w; transposed = false }
scan_of w h true = record { w = w; stride = 1; step = w; lines = w; len = h; transposed = true }

-- cell a of line l: its place in the row-major map
abbrev pub place_at : Scan → ℕ → ℕ → ℕ
place_at s l a = l * s.stride + a * s.step

abbrev pub cell_in : List ℕ → Scan → ℕ → ℕ → ℕ
cell_in m s l a = get_or m (place_at s l a) 0

-- the first k cells of line l set to g 0, g 1, ..
unfoldable pub fill : Scan → ℕ → (ℕ → ℕ) → List ℕ → ℕ → List ℕ
fill s l g m zero = m
fill s l g m (suc k) = set (fill s l g m k) (place_at s l k) (g k)

-- the context of cell a of line l, and the indices that come first there
abbrev pub around_in : List ℕ → Scan → ℕ → ℕ → Around
around_in m s l a = around by_three m s.w (row_at s.transposed l a) (col_at s.transposed l a)

-- its row in the tables, and its context
abbrev pub key_in : List ℕ → Scan → ℕ → ℕ → Key
key_in m s l a = key_at m s.w (row_at s.transposed l a) (col_at s.transposed l a)

-- what the code asks of a scan over N cells
pub record Sound (s : Scan) (N : ℕ) : Type 0 where
  pub small : N ≤ 4096
  pub some : 0 < s.len
  pub short : s.len ≤ 64
  pub few : s.lines ≤ 64
  pub inside : (l a : ℕ) → l < s.lines → a < s.len → place_at s l a < N
  pub apart : (l a k b : ℕ) → l < s.lines → k < s.lines → a < s.len → b < s.len → place_at s l a ≡ place_at s k b → (l ≡ k) × (a ≡ b)
  pub major : (l a : ℕ) → row_at s.transposed l a * s.w + col_at s.transposed l a ≡ place_at s l a
