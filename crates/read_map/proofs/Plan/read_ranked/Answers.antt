use Prim.Native.Nat.{◌<◌}
use native.Mathlib.Omega.{arith}
use Rattle.reader.proofs.Steps.{passed_on}
use Rattle.read_map.proofs.Ranked.{row_low, ctx_low, ranked_fault, ranked_low, ranked_got}
use Rattle.read_map.proofs.Plan.read_ranked.Goals as goal

pub overflow_add-self : goal.overflow_add-self
overflow_add-self c =
    let low : c.key_cell-key.result.ctx < 5 = ctx_low c.args.self.now c.args.map.now c.args.l c.args.a c.requires.ready _ c.key_cell-key.ensures in
    omega (arith, low)

pub overflow_cast-self : goal.overflow_cast-self
overflow_cast-self c =
    let low : c.key_cell-key.result.ctx < 5 = ctx_low c.args.self.now c.args.map.now c.args.l c.args.a c.requires.ready _ c.key_cell-key.ensures in
    omega (arith, low)

pub take-requires : goal.take-requires
take-requires c =
    let low : c.key_cell-key.result.ctx < 5 = ctx_low c.args.self.now c.args.map.now c.args.l c.args.a c.requires.ready _ c.key_cell-key.ensures in
    (omega arith, omega (arith, low))

pub returns-in_err-rank-clause-reads : goal.returns-in_err-rank-clause-reads
returns-in_err-rank-clause-reads c =
    passed_on _ _ _ _ _ c.from_residual.ensures.1
    (ranked_fault c.args.self.now c.args.map.now c.args.l c.args.a c.requires.ready _ c.key_cell-key.ensures _ _ c.in_err-rank.ensures.reads)

pub index_at-requires : goal.index_at-requires
index_at-requires c =
    (row_low c.args.self.now c.args.map.now c.args.l c.args.a c.requires.ready _ c.key_cell-key.ensures, omega (arith, c.in_ok-rank.ensures.below))

pub returns-clause-reads : goal.returns-clause-reads
returns-clause-reads c =
    ranked_got c.args.self.now c.args.map.now c.args.l c.args.a c.requires.ready _ c.key_cell-key.ensures
    _ _ c.in_ok-rank.ensures.below c.index_at.ensures _ _ c.in_ok-rank.ensures.reads

pub returns-clause-low : goal.returns-clause-low
returns-clause-low c =
    ranked_low c.args.self.now c.args.map.now c.args.l c.args.a c.requires.ready _ c.key_cell-key.ensures
    _ _ c.in_ok-rank.ensures.below c.index_at.ensures
