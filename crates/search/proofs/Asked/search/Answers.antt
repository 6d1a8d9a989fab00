use mathlib.Core.Path.{◌≡◌, sym, ◌∙◌}
use borrow.Author.Rules.{rules}
use Rattle.refusals.specs.Numbers.{number, number_of}
use Rattle.search.proofs.Price.{refused}
use Rattle.search.proofs.Answer.{refuses}
use Rattle.search.proofs.Passed.{number_first}
use Rattle.search.proofs.Asked.search.Goals as goal

pub returns-in-Err : goal.returns-in-Err
returns-in-Err c =
    let a = c.args.self.now in
    let e = c.in-Err.refusal in
    let was : number c.fault.result ≡ number_of e = search (rules, c.in-Err.is) in
    refuses a.samples.now a.costs.now a.block c.args.map.now c.args.flags.now _
    (number_first _ _ _ _ _ _ c.fault.ensures (λ z. refused e (sym was ∙ z)) ∙ was)
    (refused e) _ c.refuse.ensures
