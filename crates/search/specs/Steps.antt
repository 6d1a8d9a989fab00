-- What the functions within the crate ask and answer: the steps of `search`.
use Rattle.std.specs.Prelude.{◌≡◌, Bool, cond, not, List, ℕ, ◌*◌, length, take, replicate, Float}
use Rattle.lists.specs.Written.{front}
use Rattle.context.specs.Map.{lines_of}
use Rattle.samples.specs.Samples.{lambda_ok, costs_ok}
use Rattle.sizes.specs.declared.Block.{Block}
use Rattle.search.specs.declared.BestMap.{BestMap}
use Rattle.accept.specs.declared.Palette.{Palette}
use Rattle.search.specs.Search.{Standing, fault_of, palette_by}

-- the first of 4 and 5 that applies, or 0
abbrev pub price_fault : Float → List Float → ℕ
price_fault lambda costs = cond (not (lambda_ok lambda)) 4 (cond (not (costs_ok costs)) 5 0)

-- the tests 1 to 8 have passed
pub record Passed (samples costs : List Float) (b : Block) (cells lines : ℕ) : Type 0 where
  pub zero : fault_of samples costs b cells lines ≡ 0

-- cells and lines are zeros, as many as a map has
pub record Zeros (b : Block) (t : Bool) (cells lines : List ℕ) : Type 0 where
  pub cells_zero : cells ≡ replicate (b.width * b.height) 0
  pub lines_zero : lines ≡ replicate (lines_of t b.width b.height) 0

-- the code's best map stands: its cells and flags are from the front
pub record Stands (s : Standing) (kept : BestMap) : Type 0 where
  pub is : kept.best ≡ s.best
  pub cells : take (length s.map) kept.cells ≡ s.map
  pub signs : take (length s.flags) kept.lines ≡ s.flags

-- what stands has as many cells and flags as the block
pub record Whole (b : Block) (s : Standing) : Type 0 where
  pub cells : length s.map ≡ b.width * b.height
  pub signs : length s.flags ≡ lines_of s.best.transposed b.width b.height

-- a palette with its cells and flags from the front
pub record Written (s : Standing) (map₀ map flags₀ flags : List ℕ) (r : Palette) : Type 0 where
  pub answer : r ≡ palette_by s.best
  pub cells : map ≡ front s.map map₀
  pub signs : flags ≡ front s.flags flags₀
