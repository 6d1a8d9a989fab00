use mathlib.Core.Path.{◌≡◌, refl, ◌∙◌}
use native.Mathlib.Omega.{arith}
use Rattle.reader.proofs.Steps.{passed_on}
use Rattle.scan.proofs.Fill.{below_set}
use Rattle.read_map.proofs.Lines.{cells_start, cells_fault, cells_turn, cells_end}
use Rattle.read_map.proofs.Plan.read_cells.Goals as goal

pub loop-a-init : goal.loop-a-init
loop-a-init c = (cells_start _ _ _ _ _ c.requires.ready.below, refl)

pub read_index-requires-clause-ready : goal.read_index-requires-clause-ready
read_index-requires-clause-ready c =
    record { sound = rw c.loop-a.auto.map c.requires.ready.sound; below = c.loop-a.invariant.0.below }

pub returns-in_err-index-clause-reads : goal.returns-in_err-index-clause-reads
returns-in_err-index-clause-reads c =
    passed_on _ _ _ _ _ c.from_residual.ensures.1
    (cells_fault _ _ _ _ _ _ _ _ c.loop-a.invariant.0 c.loop-a-test.true _ c.in_err-index.ensures.reads)

pub loop-a-preserved : goal.loop-a-preserved
loop-a-preserved c = (
  cells_turn _ _ _ _ _ _ _ _ c.loop-a.invariant.0 _ _ _ c.place.ensures c.in_ok-index.ensures.reads
      (below_set _ _ _ _ c.loop-a.invariant.0.below c.in_ok-index.ensures.low),
  c.in_ok-index.ensures.list ∙ c.loop-a.invariant.1,
)

pub returns-clause-reads : goal.returns-clause-reads
returns-clause-reads c =
    let same : c.loop-a.a ≡ c.args.self.now.scan.len = omega arith in
    cells_end _ _ _ _ _ _ _ _ c.loop-a.invariant.0 same
