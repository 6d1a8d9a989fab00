-- Document 01, 'Listing program': the number of a text by the block at its front.
use Rattle.std.specs.Prelude.{ℕ, cond, ◌||◌, eqb}
use Rattle.blocks.specs.declared.Block.{Block}

-- the block's own number, and 17 for text after the last row
unfoldable pub answer_number : Block → ℕ → ℕ
answer_number b long = cond (eqb b.taken 0 || eqb b.taken long) b.number 17
