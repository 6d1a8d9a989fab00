-- Document 02, L1: the block report, from the input's bytes to the output's.
use Rattle.std.specs.Prelude.{ℕ, zero, suc, ◌+◌, cond, List, [], ◌∷◌, ◌++◌, eqb, length, drop}
use Rattle.printing.specs.Printing.{line}
use Rattle.blocks.specs.declared.Block.{Block}
use Rattle.blocks.specs.Block.{refused_block, block_of}
use Rattle.reporting.specs.declared.Page.{Page}
use Rattle.reporting.specs.Fraction.{fraction}

-- the blocks of a text, one after the other: to its end, to a block whose own end is not known, or to a byte too many, which is 19
unfoldable pub blocks_of : ℕ → List ℕ → List Block
blocks_of zero s = cond (eqb (length s) 0) [] (refused_block 19 0 ∷ [])
blocks_of (suc left) s =
    let b = block_of s in
    cond (eqb (length s) 0) [] (b ∷ cond (eqb b.taken 0) [] (blocks_of left (drop b.taken s)))

-- block k's line: its number, calls, cells and raw width; a refused one's has zeros and the refusal
unfoldable pub block_line : ℕ → Block → List ℕ
block_line k b = line (k ∷ b.calls ∷ b.cells ∷ b.raw ∷ cond (eqb b.number 0) [] (b.number ∷ []))

unfoldable pub block_lines : ℕ → List Block → List ℕ
block_lines k [] = []
block_lines k (b ∷ bs) = block_line k b ++ block_lines (k + 1) bs

-- sums over the block lines
unfoldable pub total : (Block → ℕ) → List Block → ℕ
total f [] = 0
total f (b ∷ bs) = f b + total f bs

-- how many block lines there are, and their totals
unfoldable pub page_of : List Block → Page
page_of bs =
    record { lines = total (λ b. 1) bs; calls = total (λ b. b.calls) bs; cells = total (λ b. b.cells) bs; raw = total (λ b. b.raw) bs }

-- the last line: 0, the three totals, raw width per cell in lowest terms
unfoldable pub last_line : Page → List ℕ
last_line p = line (0 ∷ p.calls ∷ p.cells ∷ p.raw ∷ fraction p.raw p.cells)

-- up to 9,999 palettes
unfoldable pub report : List ℕ → List ℕ
report s = let bs = blocks_of 9999 s in block_lines 1 bs ++ last_line (page_of bs)
