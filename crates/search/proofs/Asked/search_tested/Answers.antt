use mathlib.Core.Path.{◌≡◌, refl, ap, ◌∙◌}
use borrow.Author.Rules.{rules}
use Rattle.refusals.specs.Numbers.{number, number_of}
use Rattle.search.specs.Search.{levels_fault}
use Rattle.search.proofs.Price.{refused}
use Rattle.search.proofs.Answer.{refuses, answers}
use Rattle.search.proofs.Passed.{ready_of, countable, number_second, parts_of_zero}
use Rattle.search.proofs.Asked.search_tested.Goals as goal

pub histogram_of-h-requires : goal.histogram_of-h-requires
histogram_of-h-requires c = countable (ready_of c.requires)

pub search_levels-requires : goal.search_levels-requires
search_levels-requires c =
    let is = c.histogram_of-h.ensures in
    let few : number c.levels_fault.result ≡ 0 = search (rules, c.in-Ok.is) in
    let n = (parts_of_zero _ _ _ _ _ (number_second _ _ _ _ _ _ refl _
    (c.levels_fault.ensures ∙ ap (λ h. levels_fault h.n) is) c.requires.zero ∙ few)) in
    record { passed = c.requires; levels = (is, rw is n.1, rw is n.2) }

pub returns-in-Ok : goal.returns-in-Ok
returns-in-Ok c =
    let a = c.args.self.now in
    let few : number c.levels_fault.result ≡ 0 = search (rules, c.in-Ok.is) in
    answers a.samples.now a.costs.now a.block c.args.map.now c.args.flags.now _ _ _
    (number_second _ _ _ _ _ _ refl _
    (c.levels_fault.ensures ∙ ap (λ h. levels_fault h.n) c.histogram_of-h.ensures) c.requires.zero ∙ few)
    c.search_levels.ensures

pub returns-in-Err : goal.returns-in-Err
returns-in-Err c =
    let a = c.args.self.now in
    let e = c.in-Err.refusal in
    let was : number c.levels_fault.result ≡ number_of e = search (rules, c.in-Err.is) in
    refuses a.samples.now a.costs.now a.block c.args.map.now c.args.flags.now _
    (number_second _ _ _ _ _ _ refl _
    (c.levels_fault.ensures ∙ ap (λ h. levels_fault h.n) c.histogram_of-h.ensures) c.requires.zero ∙ was)
    (refused e) _ c.refuse.ensures
