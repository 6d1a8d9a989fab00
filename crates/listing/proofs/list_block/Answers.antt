use Rattle.std.proofs.Common.{ℕ, ◌≤◌, ◌≡◌, List, refl, sym, arith, rules, length}
use Rattle.accept.specs.declared.Mapped.{Mapped}
use Rattle.accept.specs.Mapped.{palette_in}
use Rattle.accept.specs.Accepted.{refusal}
use Rattle.accept.proofs.Accepted.{accepted_of_zero}
use Rattle.accept.proofs.Levels.{few_given}
use Rattle.listing.proofs.Answers.{faulty, made_there}
use Rattle.listing.proofs.Length.{list_few}
use Rattle.listing.proofs.Refused.{some, listed_passed}
use Rattle.listing.proofs.list_block.Goals as goal

pub returns-in_err-fault : goal.returns-in_err-fault
returns-in_err-fault c =
    rw (listed_passed _ _ c.from_residual.ensures.1) (faulty _ _ _ _ _ _ _ c.in_err-fault.ensures (some c.in_err-fault.field-0.0))

-- at most eight colours
few : (b : Mapped) (cache : List ℕ) → length b.colors ≡ 8 → refusal b.width b.height b.bd (length cache) (palette_in b) ≡ 0 → b.n ≤ 8
few b cache eight zero = few_given b.colors eight b.bd b.n (accepted_of_zero _ _ _ cache _ zero).colors

pub invariant_of-passed : goal.invariant_of-passed
invariant_of-passed c =
    let eight : length c.args.block.now.colors ≡ 8 = search rules in
    let zero = sym c.in_ok-fault.ensures in
    record { few = (eight, few c.args.block.now c.args.cache.now eight zero); passed = zero }

pub invariant_of-passed-2 : goal.invariant_of-passed-2
invariant_of-passed-2 c =
    let eight : length c.args.block.now.colors ≡ 8 = search rules in
    let zero = sym c.in_ok-fault.ensures in
    record { few = (eight, few c.args.block.now c.args.cache.now eight zero); passed = zero }

pub returns : goal.returns
returns c =
    let l = c.make in
    let zero = sym c.in_ok-fault.ensures in
    let most = list_few _ _ _ _ _ (accepted_of_zero _ _ _ _ _ zero) in
    made_there _ _ _ _ _ _ zero (omega (arith, most, c.if-words-lt4234.false)) _ _
    l.ensures.out_after refl l.ensures.count_value l.ensures.raw_width_value
