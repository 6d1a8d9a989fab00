-- Words by keys: a key is the place of a cell's code in the table, for cells that have three neighbours. What the functions
-- within the crate ask. Assumes nothing.
use Rattle.std.specs.Prelude.{ℕ, ◌+◌, ◌-◌, ◌*◌, ◌/◌, ◌%◌, ◌≤◌, ◌<◌, ◌≡◌, Bool, List, [], ◌∷◌, get_or}
use Rattle.lists.specs.Counted.{up_to}
use Rattle.lists.specs.Written.{written}
use Rattle.context.specs.Map.{row_at, col_at}
use Rattle.rows.specs.Rows.{row_of, code_table}
use Rattle.literals.specs.Words.{word}

-- at place p of the map
abbrev pub key_of : List ℕ → ℕ → ℕ → ℕ
key_of map w p = row_of (get_or map (p - 1) 0) (get_or map (p - w) 0) (get_or map (p - w - 1) 0) * 8 + get_or map p 0

-- the places first + a * step of N, each with all neighbours
abbrev pub Inner : ℕ → ℕ → ℕ → ℕ → ℕ → ℕ → Type 0
Inner N w first step from count = (a : ℕ) → from ≤ a → a < count → (w < first + a * step) × (first + a * step < N)

abbrev pub KeysAt : List ℕ → ℕ → ℕ → ℕ → ℕ → List ℕ → Type 0
KeysAt map w first step count keys = (a : ℕ) → 0 < a → a < count → get_or keys a 0 ≡ key_of map w (first + a * step)

-- the cells of line l but the first
abbrev pub KeysIn : List ℕ → ℕ → Bool → ℕ → ℕ → List ℕ → Type 0
KeysIn map w t l count keys = (a : ℕ) → 0 < a → a < count → get_or keys a 0 ≡ key_of map w (row_at t l a * w + col_at t l a)

-- the word of each code
abbrev pub CodeWords : ℕ → List ℕ → Type 0
CodeWords n words = (c : ℕ) → c < 40 → get_or words c 0 ≡ word 5 ((n - 2) * 5 + c / 8) (c % 8)

pub record Coded (n : ℕ) (codes words : List ℕ) : Type 0 where
  pub table : codes ≡ code_table
  pub each : CodeWords n words

-- the keys from `from` to before `to` are places of the table, and the codes there have words
abbrev pub Readable : List ℕ → List ℕ → ℕ → ℕ → Type 0
Readable codes keys from to = (a : ℕ) → from ≤ a → a < to → (get_or keys a 0 < 4096) × (get_or codes (get_or keys a 0) 0 < 40)

-- the word by the key at a place
abbrev pub word_by : List ℕ → List ℕ → List ℕ → ℕ → ℕ
word_by codes words keys a = get_or words (get_or codes (get_or keys a 0) 0) 0

-- the words g from `from` to before `to` were put behind those before them: for any words f that are g there, a buffer that had
-- the first `from` of them at `at` has the first `to`
abbrev pub Extends : (ℕ → ℕ) → ℕ → ℕ → ℕ → List ℕ → List ℕ → Type 0
Extends g from to at old new =
    (f : ℕ → ℕ) → ((a : ℕ) → from ≤ a → a < to → g a ≡ f a) → (start : List ℕ)
    → old ≡ written start at (up_to (λ a. f a ∷ []) from) → new ≡ written start at (up_to (λ a. f a ∷ []) to)
