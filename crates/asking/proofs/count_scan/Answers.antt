use mathlib.Core.Path.{ap, ◌∙◌}
use Prim.Native.Nat.{ℕ}
use lib.ListN.{replicate}
use Rattle.lists.proofs.Zeros.{take_zeros}
use Rattle.search.proofs.Passed.{ready_of, few_cells, few_lines}
use Rattle.asking.proofs.count_scan.Goals as goal

pub walk_in-w-requires : goal.walk_in-w-requires
walk_in-w-requires g c =
    let ready = ready_of (record { zero = c.args.trial.now.passed }) in
    let count = c.lines_of-count.ensures in
    record {
      cells_zero = take_zeros _ 4096 (few_cells ready);
      lines_zero = take_zeros _ 64 (few_lines ready c.args.transposed _ count) ∙ ap (λ k. replicate {A = ℕ} k 0) count;
    }

pub map_in-found-requires : goal.map_in-found-requires
map_in-found-requires g c =
    let ready = ready_of (record { zero = c.args.trial.now.passed }) in
    let count = c.lines_of-count.ensures in
    record {
      cells_zero = take_zeros _ 4096 (few_cells ready);
      lines_zero = take_zeros _ 64 (few_lines ready c.args.transposed _ count) ∙ ap (λ k. replicate {A = ℕ} k 0) count;
    }
