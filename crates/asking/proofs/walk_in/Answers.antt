use Rattle.search.proofs.Passed.{ready_of}
use Rattle.search.proofs.Tries.{priced, scanned, buildable}
use Rattle.asking.proofs.walk_in.Goals as goal

pub invariant_of-search : goal.invariant_of-search
invariant_of-search c =
    record { sound = scanned (ready_of (record { zero = c.args.trial.now.passed })) c.args.transposed _ c.new.ensures }

pub walk-requires : goal.walk-requires
walk-requires c =
    let a = c.args.trial.now in
    let ready = ready_of (record { zero = a.passed }) in
    let fits = buildable ready c.args.transposed c.requires _ a.pricing.few.0 _ c.new.ensures in
    (fits.0, fits.1, fits.2, fits.3, rw a.priced.0 (priced ready))
