use Rattle.search.proofs.Figure.{as_estimate}
use Rattle.search.proofs.estimate.Goals as goal

pub returns : goal.returns
returns c = as_estimate c.args.head c.args.map_bits
