-- Every number of a report fits its 8 columns. Assumes nothing.
use Prim.Native.Nat.{ℕ, zero, suc, ◌*◌, ◌≤◌}
use mathlib.Core.List.{List, [], ◌∷◌}
use native.Mathlib.Omega.{arith}
use lib.Dec.{eqb}
use lib.ListN.{length, drop}
use Rattle.lists.proofs.Choice.{either_way}
use Rattle.blocks.specs.declared.Block.{Block}
use Rattle.blocks.specs.Block.{refused_block, block_of, Few}
use Rattle.blocks.proofs.Few.{refused_few, block_few}
use Rattle.reporting.specs.Report.{blocks_of, total, page_of}
use Rattle.reporting.specs.Steps.{Fits}

-- at most n blocks, each of which counts little
record Bounded (n : ℕ) (bs : List Block) : Type 0 where
  lines : total (λ b. 1) bs ≤ n
  calls : total (λ b. b.calls) bs ≤ 4234 * total (λ b. 1) bs
  cells : total (λ b. b.cells) bs ≤ 4096 * total (λ b. 1) bs
  raw : total (λ b. b.raw) bs ≤ 2618 * total (λ b. 1) bs

bounded_nil : (n : ℕ) → Bounded n []
unfolding total
bounded_nil n = record { lines = omega arith; calls = omega arith; cells = omega arith; raw = omega arith }

bounded_cons : (n : ℕ) (b : Block) (bs : List Block) → Few b → Bounded n bs → Bounded (suc n) (b ∷ bs)
unfolding total
bounded_cons n b bs f h =
    record {
      lines = omega (arith, h.lines);
      calls = omega (arith, f.calls, h.calls);
      cells = omega (arith, f.cells, h.cells);
      raw = omega (arith, f.raw, h.raw);
    }

blocks_bounded : (left : ℕ) (s : List ℕ) → Bounded (suc left) (blocks_of left s)
unfolding blocks_of
blocks_bounded zero s =
    either_way (λ bs. Bounded 1 bs) (eqb (length s) 0) [] (refused_block 19 0 ∷ []) (bounded_nil 1)
    (bounded_cons 0 (refused_block 19 0) [] (refused_few 19 0) (bounded_nil 0))
blocks_bounded (suc left) s =
    let b = block_of s in
    let rest = blocks_of left (drop b.taken s) in
    either_way (λ bs. Bounded (suc (suc left)) bs) (eqb (length s) 0) [] _ (bounded_nil (suc (suc left)))
    (bounded_cons (suc left) b _ (block_few s)
    (either_way (λ bs. Bounded (suc left) bs) (eqb b.taken 0) [] rest (bounded_nil (suc left)) (blocks_bounded left (drop b.taken s))))

pub report_fits : (s : List ℕ) → Fits (page_of (blocks_of 9999 s))
unfolding page_of
report_fits s =
    let h = blocks_bounded 9999 s in
    record { lines = h.lines; calls = h.calls; cells = h.cells; raw = h.raw }
