use Rattle.strip.proofs.At.{searches_at}
use Rattle.strip.proofs.Shared.search_at.Goals as goal

pub returns : goal.returns
returns c =
    let a = c.args in
    searches_at a.self.now.samples.now a.self.now.costs.now _ a.at c.past-end.result a.map.now _ a.flags.now _ _
    c.requires c.past-end.ensures c.search.auto.map c.search.auto.flags c.search.ensures
