use Rattle.reading.proofs.Answers.{copied}
use Rattle.reading.proofs.deliver.Goals as goal

pub returns-clause-map_after : goal.returns-clause-map_after
returns-clause-map_after c = (
  copied c.args.map.now _ c.args.cells.now c.copy_front.ensures c.requires.0,
  copied c.args.flags.now _ c.args.lines.now c.copy_front-2.ensures c.requires.1,
)
