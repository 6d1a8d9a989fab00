use Rattle.search.proofs.Passed.{ready_of}
use Rattle.search.proofs.Tries.{priced, scanned, buildable, map_is}
use Rattle.search.proofs.Trial.map_in.Goals as goal

pub invariant_of-search : goal.invariant_of-search
invariant_of-search c =
    record { sound = scanned (ready_of (record { zero = c.args.self.now.passed })) c.args.transposed _ c.new.ensures }

pub build_map-requires : goal.build_map-requires
build_map-requires c =
    let a = c.args.self.now in
    let ready = ready_of (record { zero = a.passed }) in
    let fits = buildable ready c.args.transposed c.requires _ a.pricing.few.0 _ c.new.ensures in
    (fits.0, fits.1, fits.2, fits.3, rw a.priced.0 (priced ready))

pub returns : goal.returns
returns c =
    let a = c.args.self.now in
    map_is a.samples.now a.pricing.costs.now a.block a.size c.args.transposed _ _ _ _ c.args.cells.now c.args.lines.now _ _ _
    c.new.ensures a.priced.1 a.priced.2 c.requires (rw a.priced.0 at c.build_map.ensures)
