-- Document 02, L3: the context of a line's first cell, from the second line on, depends only on the line before. Assumes nothing.
use Rattle.std.specs.Prelude.{ℕ, suc, ◌≤◌, ◌<◌, ◌≡◌, List}
use Rattle.context.specs.Order.{order_of}
use Rattle.scan.specs.declared.Scan.{Scan}
use Rattle.scan.specs.Scan.{cell_in, fill, around_in, Sound}

-- two maps agree on line l
abbrev pub AgreeOn : Scan → ℕ → List ℕ → List ℕ → Type 0
AgreeOn s l m m' = (a : ℕ) → a < s.len → cell_in m s l a ≡ cell_in m' s l a

-- they have the same context and order at the first cell of the line behind it
abbrev pub FirstByLineBefore : Type 0
FirstByLineBefore =
    (s : Scan) (N : ℕ) → Sound s N → (l : ℕ) (m m' : List ℕ) → AgreeOn s l m m' → (n : ℕ)
    → ((around_in m s (suc l) 0).ctx ≡ (around_in m' s (suc l) 0).ctx)
    × (order_of (around_in m s (suc l) 0) n ≡ order_of (around_in m' s (suc l) 0) n)

-- not on the colour tried: whatever the line's first k cells are filled with, the context at its first cell is the same
abbrev pub FirstByNoFill : Type 0
FirstByNoFill =
    (s : Scan) (N : ℕ) → Sound s N → (l : ℕ) → suc l < s.lines → (m : List ℕ) (g : ℕ → ℕ) (k : ℕ) → k ≤ s.len
    → around_in (fill s (suc l) g m k) s (suc l) 0 ≡ around_in m s (suc l) 0
