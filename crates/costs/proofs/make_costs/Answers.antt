use Rattle.costs.proofs.Answered.{accepted, refused}
use Rattle.costs.proofs.make_costs.Goals as goal

pub returns-in-Ok : goal.returns-in-Ok
returns-in-Ok c = let e = c.in-Ok.ensures in accepted _ _ e.refused e.made

pub returns-in-Err : goal.returns-in-Err
returns-in-Err c = refused _ _ _ c.number.ensures c.in-Err.ensures.refused
