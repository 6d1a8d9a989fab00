use mathlib.Core.Path.{ap, ◌∙◌}
use Prim.Native.Nat.{ℕ}
use lib.ListN.{replicate}
use Rattle.lists.proofs.Zeros.{take_zeros}
use Rattle.search.proofs.Passed.{ready_of, few_cells, few_lines}
use Rattle.search.proofs.Trial.one.Goals as goal

pub one_in-requires : goal.one_in-requires
one_in-requires c =
    let ready = ready_of (record { zero = c.args.self.now.passed }) in
    let count = c.lines_of-count.ensures in
    record {
      cells_zero = take_zeros _ 4096 (few_cells ready);
      lines_zero = take_zeros _ 64 (few_lines ready c.args.transposed _ count) ∙ ap (λ k. replicate {A = ℕ} k 0) count;
    }
