use mathlib.Core.Path.{◌≡◌, refl, sym, ap, ◌∙◌}
use mathlib.Core.Bool.{Bool, true, cond, not}
use mathlib.Core.List.{List}
use Prim.Native.Nat.{ℕ, ◌*◌}
use native.Mathlib.Nat.{mul-le-mul, lt_of_le_of_lt}
use borrow.Author.Tests.{eq-eqb, ne_eqb}
use lib.Dec.{lit<}
use lib.ListN.{length}
use lib.Ieee.{Float}
use Rattle.lists.specs.Counted.{within}
use Rattle.lists.proofs.Counted.{within_at}
use Rattle.accept.specs.Accepted.{sides_ok, depth_ok}
use Rattle.accept.proofs.Accepted.{sides_at}
use borrow.Author.Rules.{rules}
use Rattle.refusals.specs.Numbers.{number, number_of}
use Rattle.samples.specs.Samples.{lambda_ok, costs_ok, samples_ok}
use Rattle.sizes.specs.declared.Block.{Block}
use Rattle.accept.specs.Answer.{rooms_ok}
use Rattle.search.specs.Search.{large_ok, fault_of}
use Rattle.search.specs.Steps.{price_fault}
use Rattle.search.proofs.Price.{refused, price_passes, price_refuses}
use Rattle.search.proofs.fault.Goals as goal

depth_is : (bd : ℕ) (r t : Bool) → r ≡ within 8 12 bd → r ≡ t → depth_ok bd ≡ t
unfolding depth_ok
depth_is bd r t e f = sym e ∙ f

module _ (samples costs : List Float) (b : Block) (cells lines : ℕ) (sides : sides_ok b.width b.height ≡ true)
    (depth : depth_ok b.bd ≡ true) (count : length samples ≡ b.width * b.height) where
  -- what is left once the samples are counted
  counted : fault_of samples costs b cells lines
      ≡ cond (not (lambda_ok b.lambda)) 4
      (cond (not (costs_ok costs)) 5
      (cond (not (samples_ok b.bd samples)) 6
      (cond (not (rooms_ok b.width b.height cells lines)) 7 (cond (not (large_ok b.width b.height)) 8 0))))
  unfolding fault_of
  counted = rw (sides, depth, eq-eqb _ _ count) refl

  -- what is left once the samples have passed
  rest : (price : ℕ) → price ≡ price_fault b.lambda costs → price ≡ 0 → samples_ok b.bd samples ≡ true
      → fault_of samples costs b cells lines
      ≡ cond (not (rooms_ok b.width b.height cells lines)) 7 (cond (not (large_ok b.width b.height)) 8 0)
  rest price is zero sampled =
      let passed = price_passes b.lambda costs price is zero in
      counted ∙ rw (passed.0, passed.1, sampled) refl

pub returns-then-not-sides_ok : goal.returns-then-not-sides_ok
unfolding fault_of
returns-then-not-sides_ok c = λ costs is-price. rw (sym c.sides_ok.ensures ∙ c.if-not-sides_ok.true) refl

pub returns-then-not-within : goal.returns-then-not-within
unfolding fault_of
returns-then-not-within c = λ costs is-price.
    let sides = sym c.sides_ok.ensures ∙ c.if-not-sides_ok.false in
    let depth = depth_is c.args.b.bd c.within.result _ c.within.ensures c.if-not-within.true in
    rw (sides, depth) refl

pub overflow_mul-b : goal.overflow_mul-b
overflow_mul-b c =
    let f = sides_at _ _ (sym c.sides_ok.ensures ∙ c.if-not-sides_ok.false) in
    record { fits = lt_of_le_of_lt (mul-le-mul f.0.1 f.1.1) (lit< tt) }

pub returns-then-samples-b : goal.returns-then-samples-b
unfolding fault_of
returns-then-samples-b c = λ costs is-price.
    let sides = sym c.sides_ok.ensures ∙ c.if-not-sides_ok.false in
    let depth = depth_is c.args.b.bd c.within.result _ c.within.ensures c.if-not-within.false in
    rw (sides, depth, ne_eqb _ _ c.if-samples-b.true) refl

pub returns-in_err-price : goal.returns-in_err-price
returns-in_err-price c = λ costs is-price.
    let a = c.args in
    let sides = sym c.sides_ok.ensures ∙ c.if-not-sides_ok.false in
    let depth = depth_is a.b.bd c.within.result _ c.within.ensures c.if-not-within.false in
    let is : number a.price ≡ number_of c.in_err-price.field-0.0 = search (rules, c.in_err-price.was) in
    let same : number c.from_residual.result ≡ number_of c.in_err-price.field-0.0 = search rules in
    same ∙ sym is ∙ sym (counted a.samples.now costs a.b c.args.cells c.args.lines sides depth c.if-samples-b.false
    ∙ price_refuses _ costs _ is-price _ (λ z. refused _ (sym is ∙ z)))

pub samples_ok-requires : goal.samples_ok-requires
samples_ok-requires c = within_at 8 12 c.args.b.bd (sym c.within.ensures ∙ c.if-not-within.false)

pub returns-then-not-samples_ok : goal.returns-then-not-samples_ok
returns-then-not-samples_ok c = λ costs is-price.
    let a = c.args in
    let sides = sym c.sides_ok.ensures ∙ c.if-not-sides_ok.false in
    let depth = depth_is a.b.bd c.within.result _ c.within.ensures c.if-not-within.false in
    let passed = price_passes _ costs _ is-price (ap number c.in_ok-price.was) in
    sym (counted a.samples.now costs a.b c.args.cells c.args.lines sides depth c.if-samples-b.false
    ∙ rw (passed.0, passed.1, sym c.samples_ok.ensures ∙ c.if-not-samples_ok.true) refl)

pub rooms_ok-requires : goal.rooms_ok-requires
rooms_ok-requires c =
    let f = sides_at _ _ (sym c.sides_ok.ensures ∙ c.if-not-sides_ok.false) in
    (f.0.1, f.1.1)

pub returns-then-not-rooms_ok : goal.returns-then-not-rooms_ok
returns-then-not-rooms_ok c = λ costs is-price.
    let a = c.args in
    let sides = sym c.sides_ok.ensures ∙ c.if-not-sides_ok.false in
    let depth = depth_is a.b.bd c.within.result _ c.within.ensures c.if-not-within.false in
    let sampled = sym c.samples_ok.ensures ∙ c.if-not-samples_ok.false in
    sym (rest a.samples.now costs a.b c.args.cells c.args.lines sides depth c.if-samples-b.false _ is-price (ap number c.in_ok-price.was) sampled
    ∙ rw (sym c.rooms_ok.ensures ∙ c.if-not-rooms_ok.true) refl)

pub returns-then-not-large_ok : goal.returns-then-not-large_ok
returns-then-not-large_ok c = λ costs is-price.
    let a = c.args in
    let sides = sym c.sides_ok.ensures ∙ c.if-not-sides_ok.false in
    let depth = depth_is a.b.bd c.within.result _ c.within.ensures c.if-not-within.false in
    let sampled = sym c.samples_ok.ensures ∙ c.if-not-samples_ok.false in
    let rooms = sym c.rooms_ok.ensures ∙ c.if-not-rooms_ok.false in
    sym (rest a.samples.now costs a.b c.args.cells c.args.lines sides depth c.if-samples-b.false _ is-price (ap number c.in_ok-price.was) sampled
    ∙ rw (rooms, sym c.large_ok.ensures ∙ c.if-not-large_ok.true) refl)

pub returns : goal.returns
returns c = λ costs is-price.
    let a = c.args in
    let sides = sym c.sides_ok.ensures ∙ c.if-not-sides_ok.false in
    let depth = depth_is a.b.bd c.within.result _ c.within.ensures c.if-not-within.false in
    let sampled = sym c.samples_ok.ensures ∙ c.if-not-samples_ok.false in
    let rooms = sym c.rooms_ok.ensures ∙ c.if-not-rooms_ok.false in
    sym (rest a.samples.now costs a.b c.args.cells c.args.lines sides depth c.if-samples-b.false _ is-price (ap number c.in_ok-price.was) sampled
    ∙ rw (rooms, sym c.large_ok.ensures ∙ c.if-not-large_ok.false) refl)
