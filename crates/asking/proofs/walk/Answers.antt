use mathlib.Core.Bool.{true, false}
use mathlib.Core.Path.{◌≡◌, refl, sym, ◌∙◌}
use native.Mathlib.Omega.{arith}
use lib.ListN.{set}
use Rattle.map_search.specs.Lines.{Walk, reached}
use Rattle.map_search.proofs.Walk.{next_by, turned, rest_none}
use Rattle.asking.proofs.Reached.{reached_more, reached_all, asked_more}
use Rattle.asking.proofs.walk.Goals as goal

pub returns-then-cost-lambda-clause-built : goal.returns-then-cost-lambda-clause-built
returns-then-cost-lambda-clause-built c =
    let a = c.args in
    let s = a.search.now in
    let p = s.pricing.now in
    let l = c.loop-l in
    let chosen = c.choose_from-c in
    let put = chosen.new.map in
    -- the walk before the line, and after it
    let walk : Walk = record { map = l.map; flags = l.flags; ctx = l.ctx; cost = l.cost } in
    let longer : Walk = record {
      map = put;
      flags = set l.flags l.l chosen.result.flag;
      ctx = chosen.result.flag;
      cost = c.add-cost.result;
    } in
    let line = turned s.samples.now p.costs.now p.colors p.n p.lambda s.scan a.head a.bound
    p.few.0 p.few.1 s.scan.lines l.l walk chosen.result put c.add-cost.result
    c.loop-l-test.true l.invariant.3 chosen.ensures.value chosen.ensures.map_after c.add-cost.ensures in
    let past : reached s.samples.now p.costs.now p.colors p.n p.lambda s.scan a.head a.bound longer ≡ true =
    c.if-cost-lambda.true in
    rw (sym l.invariant.0 ∙ line.rest_same, past) (record { result = refl; cells = refl; signs = refl })

pub returns-then-cost-lambda-clause-asked_once : goal.returns-then-cost-lambda-clause-asked_once
returns-then-cost-lambda-clause-asked_once c =
    let a = c.args in
    let s = a.search.now in
    let p = s.pricing.now in
    let l = c.loop-l in
    let chosen = c.choose_from-c in
    let put = chosen.new.map in
    let walk : Walk = record { map = l.map; flags = l.flags; ctx = l.ctx; cost = l.cost } in
    let longer : Walk = record {
      map = put;
      flags = set l.flags l.l chosen.result.flag;
      ctx = chosen.result.flag;
      cost = c.add-cost.result;
    } in
    let past : reached s.samples.now p.costs.now p.colors p.n p.lambda s.scan a.head a.bound longer ≡ true =
    c.if-cost-lambda.true in
    let reaches = sym l.invariant.5
    ∙ reached_more s.samples.now p.costs.now p.colors p.n p.lambda s.scan a.head a.bound s.scan.lines l.l walk longer
    c.loop-l-test.true
    (next_by s.samples.now p.costs.now p.colors p.n p.lambda s.scan walk l.l chosen.result put c.add-cost.result
    chosen.ensures.value chosen.ensures.map_after c.add-cost.ensures) in
    let asked = c.ask-asked.ensures.first_value in
    let one_later = asked.1 ∙ asked_more _ l.l l.invariant.7 in
    rw (reaches, past) (record { reached = refl; first = asked.0 ∙ l.invariant.6; later = omega (arith, one_later) })

pub loop-l-preserved : goal.loop-l-preserved
loop-l-preserved c =
    let a = c.args in
    let s = a.search.now in
    let p = s.pricing.now in
    let l = c.loop-l in
    let i = l.invariant in
    let chosen = c.choose_from-c in
    let put = chosen.new.map in
    let walk : Walk = record { map = l.map; flags = l.flags; ctx = l.ctx; cost = l.cost } in
    let longer : Walk = record {
      map = put;
      flags = set l.flags l.l chosen.result.flag;
      ctx = chosen.result.flag;
      cost = c.add-cost.result;
    } in
    let line = turned s.samples.now p.costs.now p.colors p.n p.lambda s.scan a.head a.bound
    p.few.0 p.few.1 s.scan.lines l.l walk chosen.result put c.add-cost.result
    c.loop-l-test.true i.3 chosen.ensures.value chosen.ensures.map_after c.add-cost.ensures in
    let below : reached s.samples.now p.costs.now p.colors p.n p.lambda s.scan a.head a.bound longer ≡ false =
    c.if-cost-lambda.false in
    let reaches = sym i.5
    ∙ reached_more s.samples.now p.costs.now p.colors p.n p.lambda s.scan a.head a.bound s.scan.lines l.l walk longer
    c.loop-l-test.true
    (next_by s.samples.now p.costs.now p.colors p.n p.lambda s.scan walk l.l chosen.result put c.add-cost.result
    chosen.ensures.value chosen.ensures.map_after c.add-cost.ensures) in
    let asked = c.ask-asked.ensures.first_value in
    let one_later = asked.1 ∙ asked_more _ l.l i.7 in (
      rw c.from-ctx.ensures (sym (sym i.0 ∙ line.rest_same ∙ rw below refl)),
      line.map_kept ∙ i.1,
      line.flags_kept ∙ i.2,
      line.below,
      rw c.from-ctx.ensures (omega (arith, line.context)),
      rw c.from-ctx.ensures (sym (reaches ∙ rw below refl)),
      asked.0 ∙ i.6,
      omega (arith, one_later),
    )

pub returns-clause-built : goal.returns-clause-built
returns-clause-built c =
    let a = c.args in
    let s = a.search.now in
    let p = s.pricing.now in
    let l = c.loop-l in
    let walked : Walk = record { map = l.map; flags = l.flags; ctx = l.ctx; cost = l.cost } in
    rw
    (sym l.invariant.0
    ∙ rest_none s.samples.now p.costs.now p.colors p.n p.lambda s.scan a.head a.bound
    s.scan.lines l.l walked c.loop-l-test.false)
    (record { result = refl; cells = refl; signs = refl })

pub returns-clause-asked_once : goal.returns-clause-asked_once
returns-clause-asked_once c =
    let a = c.args in
    let s = a.search.now in
    let p = s.pricing.now in
    let l = c.loop-l in
    let walked : Walk = record { map = l.map; flags = l.flags; ctx = l.ctx; cost = l.cost } in
    let all = sym l.invariant.5 ∙ reached_all s.samples.now p.costs.now p.colors p.n p.lambda s.scan a.head a.bound
    s.scan.lines l.l walked c.loop-l-test.false in
    rw all (record { reached = omega (arith, c.loop-l-test.false); first = l.invariant.6; later = l.invariant.7 })
