-- Document 02, L1: palettes one after the other.
use Rattle.std.specs.Prelude.{ℕ, ◌+◌, ◌<◌, ◌≡◌, List, [], ◌∷◌, ◌++◌, map, length}
use Rattle.blocks.specs.Block.{block_of}
use Rattle.reporting.specs.Report.{blocks_of}

-- a text that is one palette's, in form, with nothing behind its last row
pub record Whole (u : List ℕ) : Type 0 where
  pub some : 0 < length u
  pub taken : (block_of u).taken ≡ length u

-- texts one after the other, each of them whole
pub data Follow : List (List ℕ) → List ℕ → Type 0 where
  none : Follow [] []
  next : {u s : List ℕ} {us : List (List ℕ)} → Whole u → Follow us s → Follow (u ∷ us) (u ++ s)

-- each has the block that it has by itself, and what stands behind the last row begins the next. Proved in proofs/Follow.antt.
abbrev pub EachItsBlock : Type 0
EachItsBlock =
    (us : List (List ℕ)) (t s : List ℕ) → Follow us t
    → (left n : ℕ) → n ≡ length us + left → blocks_of n (t ++ s) ≡ map block_of us ++ blocks_of left s
