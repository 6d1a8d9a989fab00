use Rattle.std.proofs.Common.{◌+◌, ◌*◌, ◌<◌, sym, ◌∙◌, arith}
use Rattle.near.specs.Near.{Below}
use Rattle.emit.specs.declared.IndexMap.{IndexMap}
use Rattle.emit.proofs.Keys.{below_all, corner_word, row_low, ctx_low, rank_low, word_by_row}
use Rattle.emit.proofs.Coder.cell_word.Goals as goal

low : (m : IndexMap) → Below m.cells.now m.n
low m = below_all m.cells.now m.n (omega (arith, m.inside.two)) m.inside.below

pub returns-then-is_corner : goal.returns-then-is_corner
returns-then-is_corner c =
    let m = c.args.self.now.map in
    c.call.ensures ∙ rw (c.from.ensures, c.index_at-index.ensures) (corner_word m.cells.now m.w m.n c.args.y c.args.x (sym c.if-is_corner.ensures))

pub rank_at-rank-requires : goal.rank_at-rank-requires
rank_at-rank-requires c =
    let m = c.args.self.now.map in (
      rw c.key_at-key.ensures (row_low m.cells.now m.w m.n c.args.y c.args.x m.inside.two m.inside.eight (low m)),
      rw c.index_at-index.ensures (omega (arith, low m (c.args.y * m.w + c.args.x), m.inside.eight)),
    )

pub overflow_add-map : goal.overflow_add-map
overflow_add-map c =
    let m = c.args.self.now.map in
    let context : c.key_at-key.result.ctx < 5 =
    rw c.key_at-key.ensures (ctx_low m.cells.now m.w m.n c.args.y c.args.x m.inside.two m.inside.eight (low m)) in
    omega (arith, context, m.inside.eight)

pub overflow_cast-map-2 : goal.overflow_cast-map-2
overflow_cast-map-2 c =
    let m = c.args.self.now.map in
    let context : c.key_at-key.result.ctx < 5 =
    rw c.key_at-key.ensures (ctx_low m.cells.now m.w m.n c.args.y c.args.x m.inside.two m.inside.eight (low m)) in
    omega (arith, context, m.inside.eight)

pub call-requires-2 : goal.call-requires-2
call-requires-2 c =
    let m = c.args.self.now.map in
    let context : c.key_at-key.result.ctx < 5 =
    rw c.key_at-key.ensures (ctx_low m.cells.now m.w m.n c.args.y c.args.x m.inside.two m.inside.eight (low m)) in
    let r = rank_low m.cells.now m.w m.n c.args.y c.args.x m.inside.two m.inside.eight (low m) in (
      omega arith,
      omega (arith, context, m.inside.eight),
      rw (c.from-2.ensures, c.rank_at-rank.ensures, c.index_at-index.ensures, c.key_at-key.ensures) (omega (arith, r)),
    )

pub returns : goal.returns
returns c =
    let m = c.args.self.now.map in
    c.call-2.ensures ∙ rw (c.from-2.ensures, c.rank_at-rank.ensures, c.index_at-index.ensures, c.key_at-key.ensures)
    (word_by_row m.cells.now m.w m.n c.args.y c.args.x m.inside.two m.inside.eight (low m) (sym c.if-is_corner.ensures))
