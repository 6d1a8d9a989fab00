use mathlib.Core.Path.{◌∙◌}
use borrow.Author.Rules.{rules}
use borrow.Author.Tests.{ne_eqb}
use Rattle.refusals.specs.Numbers.{number_of}
use Rattle.search.proofs.Price.{refused}
use Rattle.strip.proofs.Turn.{nothing}
use Rattle.strip.proofs.search_strip.Goals as goal

pub returns-in-Err : goal.returns-in-Err
returns-in-Err c =
    let a = c.args in
    let none =
    nothing a.sides.now a.samples.now a.costs.now a.bd a.lambda a.map.now a.flags.now _ 64 (search rules) in
    record {
      number = c.number.ensures ∙ c.in-Err.ensures;
      searched = rw (c.number.ensures, ne_eqb (number_of c.in-Err.refusal) 0 (refused c.in-Err.refusal)) none;
    }
