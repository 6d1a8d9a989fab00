use mathlib.Core.Path.{◌≡◌, sym, ◌∙◌}
use native.Mathlib.Omega.{arith}
use lib.ListN.{take}
use lib.Seq.{length-take-le}
use Rattle.lists.specs.Same.{same_list}
use Rattle.listing.proofs.Answers.{count_few}
use Rattle.reading.specs.Steps.{palette_in}
use Rattle.reading.proofs.Relisted.{same_compared, differ, relists_not, relists_same}
use Rattle.reading.proofs.relists.Goals as goal

pub returns-then-listed-ne0 : goal.returns-then-listed-ne0
returns-then-listed-ne0 c =
    let b = c.args.b.now in
    let l = c.list-listed in
    relists_not b.width b.height b.bd b.cache.now (palette_in b c.args.cells.now c.args.lines.now)
    c.args.aside.now _ l.result l.ensures c.requires b.words.now (λ e. omega (arith, e, c.if-listed-ne0.true))

pub slice_bounds-eq-end : goal.slice_bounds-eq-end
slice_bounds-eq-end c =
    let b = c.args.b.now in
    let l = c.list-listed in
    let few = count_few b.width b.height b.bd b.cache.now (palette_in b c.args.cells.now c.args.lines.now) c.args.aside.now _ l.result l.ensures in
    omega (arith, few, l.auto.words, c.requires)

pub slice_bounds-eq-end-2 : goal.slice_bounds-eq-end-2
slice_bounds-eq-end-2 c =
    let b = c.args.b.now in
    let l = c.list-listed in
    let few = count_few b.width b.height b.bd b.cache.now (palette_in b c.args.cells.now c.args.lines.now) c.args.aside.now _ l.result l.ensures in
    sym (length-take-le l.result.count l.new.words (omega (arith, few, l.auto.words, c.requires)))

-- by `grind`, with where two lists differ: of a test beside the comparison it sees whether it lets only the same list through
pub returns : goal.returns
returns c =
    let b = c.args.b.now in
    let l = c.list-listed in
    let same : c.eq.result ≡ same_list (take l.result.count l.new.words) b.words.now = c.eq.ensures ∙ same_compared _ _ in
    let few = count_few b.width b.height b.bd b.cache.now (palette_in b c.args.cells.now c.args.lines.now) c.args.aside.now _ l.result l.ensures in
    let apart = differ l.result.count l.new.words b.words.now (omega (arith, few, l.auto.words, c.requires)) in
    relists_same b.width b.height b.bd b.cache.now (palette_in b c.args.cells.now c.args.lines.now)
    c.args.aside.now _ l.result l.ensures c.requires b.words.now c.if-listed-ne0.false _ (grind (arith, same, apart))
