use Rattle.samples.proofs.Ranges.{costs_count}
use Rattle.search.proofs.Passed.{ready_of}
use Rattle.search.proofs.Trial.new.Goals as goal

pub new-requires : goal.new-requires
new-requires c =
    let ready = ready_of (record { zero = c.args.task.now.passed }) in
    (c.requires.0, c.requires.1, costs_count _ ready.priced)
