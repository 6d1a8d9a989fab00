use native.Mathlib.Omega.{arith}
use mathlib.Core.Bool.{true, false}
use mathlib.Core.Path.{◌≡◌, refl, sym, ◌∙◌}
use lib.ListN.{set}
use Rattle.map_search.specs.Lines.{Walk, reached}
use Rattle.map_search.proofs.Walk.{turned, rest_none}
use Rattle.map_search.proofs.Search.build_map.Goals as goal

pub returns-then-cost-lambda : goal.returns-then-cost-lambda
returns-then-cost-lambda c =
    let a = c.args in
    let s = a.self.now in
    let p = s.pricing.now in
    let l = c.loop-l in
    let chosen = c.choose_line-c in
    let put = chosen.new.map in
    -- the walk before the line, and after it
    let walk : Walk = record { map = l.map; flags = l.flags; ctx = l.ctx; cost = l.cost } in
    let longer : Walk = record {
      map = put;
      flags = set l.flags l.l chosen.result.flag;
      ctx = chosen.result.flag;
      cost = c.add-cost.result;
    } in
    let line = turned s.samples.now p.costs.now p.colors p.n p.lambda s.scan a.head a.bound
    p.few.0 p.few.1 s.scan.lines l.l walk chosen.result put c.add-cost.result
    c.loop-l-test.true l.invariant.3 chosen.ensures.value chosen.ensures.map_after c.add-cost.ensures in
    let past : reached s.samples.now p.costs.now p.colors p.n p.lambda s.scan a.head a.bound longer ≡ true =
    c.if-cost-lambda.true in
    rw (sym l.invariant.0 ∙ line.rest_same, past) (record { result = refl; cells = refl; signs = refl })

pub loop-l-preserved : goal.loop-l-preserved
loop-l-preserved c =
    let a = c.args in
    let s = a.self.now in
    let p = s.pricing.now in
    let l = c.loop-l in
    let i = l.invariant in
    let chosen = c.choose_line-c in
    let put = chosen.new.map in
    let walk : Walk = record { map = l.map; flags = l.flags; ctx = l.ctx; cost = l.cost } in
    let longer : Walk = record {
      map = put;
      flags = set l.flags l.l chosen.result.flag;
      ctx = chosen.result.flag;
      cost = c.add-cost.result;
    } in
    let line = turned s.samples.now p.costs.now p.colors p.n p.lambda s.scan a.head a.bound
    p.few.0 p.few.1 s.scan.lines l.l walk chosen.result put c.add-cost.result
    c.loop-l-test.true i.3 chosen.ensures.value chosen.ensures.map_after c.add-cost.ensures in
    let below : reached s.samples.now p.costs.now p.colors p.n p.lambda s.scan a.head a.bound longer ≡ false =
    c.if-cost-lambda.false in (
      rw c.from-ctx.ensures (sym (sym i.0 ∙ line.rest_same ∙ rw below refl)),
      line.map_kept ∙ i.1,
      line.flags_kept ∙ i.2,
      line.below,
      rw c.from-ctx.ensures (omega (arith, line.context)),
    )

pub returns : goal.returns
returns c =
    let a = c.args in
    let s = a.self.now in
    let p = s.pricing.now in
    let l = c.loop-l in
    let walked : Walk = record { map = l.map; flags = l.flags; ctx = l.ctx; cost = l.cost } in
    rw
    (sym l.invariant.0
    ∙ rest_none s.samples.now p.costs.now p.colors p.n p.lambda s.scan a.head a.bound
    s.scan.lines l.l walked c.loop-l-test.false)
    (record { result = refl; cells = refl; signs = refl })
