-- The histogram: per level that occurs its count w, sum s and sum of squares q.
use Rattle.std.specs.Prelude.{◌≡◌, cond, List, [], ◌∷◌, ℕ, zero, suc, ◌+◌, ◌*◌, ◌≤◌, ◌<◌, eqb, length, get_or, replicate}
use Rattle.lists.specs.Counted.{bit, up_to}
use Rattle.lists.specs.Written.{written}
use Rattle.groups.specs.declared.Histogram.{Histogram}

-- how often v is among the cells' levels
unfoldable pub occurs : List ℕ → ℕ → ℕ
occurs [] v = 0
occurs (x ∷ xs) v = bit (eqb x v) + occurs xs v

-- f of each level below m that occurs, ascending
abbrev pub per_level : (ℕ → ℕ) → ℕ → (ℕ → ℕ) → List ℕ
per_level count m f = up_to (λ v. cond (eqb (count v) 0) [] (f v ∷ [])) m

-- 32 places, from the front, then zeros; what finds no place is left out
abbrev pub places : List ℕ → List ℕ
places xs = written (replicate 32 0) 0 xs

-- of the levels below m, where v occurs `count v` times
abbrev pub gathered : (ℕ → ℕ) → ℕ → Histogram
gathered count m = record {
  n = length (per_level count m (λ v. v));
  w = places (per_level count m count);
  s = places (per_level count m (λ v. count v * v));
  q = places (per_level count m (λ v. count v * (v * v)));
}

-- the levels that occur, ascending
abbrev pub levels_of : List ℕ → List ℕ
levels_of xs = per_level (occurs xs) 4096 (λ v. v)

-- of a block whose cells have the levels xs: number 9 where n is 1, and 10 where it is above 32
unfoldable pub histogram_of : List ℕ → Histogram
histogram_of xs = gathered (occurs xs) 4096

-- the sum of the first k numbers
unfoldable pub sum_to : List ℕ → ℕ → ℕ
sum_to xs zero = 0
sum_to xs (suc k) = sum_to xs k + get_or xs k 0

-- what holds of the histogram of a block of at most 32 levels, which are v
pub record IsHistogram (v : List ℕ) (h : Histogram) : Type 0 where
  pub few : h.n ≤ 32
  pub full : (length h.w ≡ 32) × (length h.s ≡ 32) × (length h.q ≡ 32)
  pub top : (i : ℕ) → get_or v i 0 ≤ 4095
  pub rising : (i : ℕ) → i + 1 < h.n → get_or v i 0 < get_or v (i + 1) 0
  pub seen : (i : ℕ) → i < h.n → 1 ≤ get_or h.w i 0
  pub sums : (i : ℕ) → get_or h.s i 0 ≡ get_or h.w i 0 * get_or v i 0
  pub squares : (i : ℕ) → get_or h.q i 0 ≡ get_or h.w i 0 * (get_or v i 0 * get_or v i 0)
  pub cells : sum_to h.w 32 ≤ 4096

-- of some levels, at most 32: which they are is not told, so that a ghost field can hold this
abbrev pub HasLevels : Histogram → Type 0
HasLevels h = (h.n ≤ 32) × ∥ ((v : List ℕ) × IsHistogram v h) ∥₁
