use Rattle.std.specs.Prelude.{Some, None}
use Rattle.search.proofs.Passed.{ready_of}
use Rattle.search.proofs.Tries.{room_for, tried_is}
use Rattle.search.proofs.Trial.one_in.Goals as goal

pub judge-requires : goal.judge-requires
judge-requires c =
    let made = c.map_in.new in
    room_for (ready_of (record { zero = c.args.self.now.passed })) c.args.transposed c.requires made.cells made.lines
    c.map_in.auto.cells c.map_in.auto.lines

pub returns-in-Some : goal.returns-in-Some
returns-in-Some c =
    let a = c.args.self.now in
    let made = c.map_in.new in λ s S.
    rw (tried_is a.samples.now a.pricing.costs.now a.block a.size c.args.transposed c.args.kept.now.best s S.is
    made.cells made.lines _ (Some c.in-Some.cost) c.map_in.ensures c.in-Some.is) (c.judge.ensures s S)

pub returns-in_default : goal.returns-in_default
returns-in_default c =
    let a = c.args.self.now in
    let made = c.map_in.new in λ s S.
    rw (tried_is a.samples.now a.pricing.costs.now a.block a.size c.args.transposed c.args.kept.now.best s S.is
    made.cells made.lines _ None c.map_in.ensures c.in_default.is) S
