use Rattle.std.proofs.Common.{ℕ, ◌≤◌, ◌≡◌, refl, sym, List, arith, length, take}
use Rattle.std.proofs.lemmas.Bool.{ne_eqb}
use Rattle.std.proofs.lemmas.List.{length-take-le}
use Rattle.lists.specs.Written.{written}
use Rattle.lists.proofs.Written.{written_take}
use Rattle.accept.specs.Mapped.{palette_in}
use Rattle.accept.specs.Accepted.{Accepted}
use Rattle.accept.proofs.Accepted.{accepted_of_zero}
use Rattle.refusals.specs.Numbers.{number_of}
use Rattle.listing.specs.declared.Listed.{Listed}
use Rattle.listing.specs.declared.Passed.{Passed}
use Rattle.listing.proofs.Answers.{delivered}
use Rattle.listing.proofs.Length.{list_few}
use Rattle.listing.proofs.Refused.{some, listed_passed}
use Rattle.listing.proofs.Passed.make_by.Goals as goal

-- the list stands aside
taken : (list aside made : List ℕ) (count : ℕ) → length list ≤ 4234 → 4234 ≤ length aside → count ≡ length list → made ≡ written aside 0 list
    → take count made ≡ list
taken list aside made count few room e w = rw (e, w) (written_take aside list (omega arith))

ok : (s : Passed) → Accepted s.block.width s.block.height s.block.bd s.cache.now (palette_in s.block)
ok s = accepted_of_zero _ _ _ _ _ s.passed

pub slice_bounds-deliver-end : goal.slice_bounds-deliver-end
slice_bounds-deliver-end c =
    let m = c.make-made in
    omega (arith, list_few _ _ _ _ _ (ok c.args.self.now), c.requires, m.ensures.count_value, m.auto.out)

pub slice_bounds-deliver-end-2 : goal.slice_bounds-deliver-end-2
slice_bounds-deliver-end-2 c =
    let m = c.make-made in
    let room : m.result.count ≤ length m.new.out = omega (arith, list_few _ _ _ _ _ (ok c.args.self.now), c.requires, m.ensures.count_value, m.auto.out) in
    sym (length-take-le m.result.count m.new.out room)

pub returns-in_err-deliver : goal.returns-in_err-deliver
returns-in_err-deliver c =
    let m = c.make-made in
    let r = c.in_err-deliver.field-0.0 in
    let zero = c.args.self.now.passed in
    let made : Listed = record { number = 0; count = m.result.count; raw_width = m.result.raw_width } in
    let answered = delivered _ _ _ _ _ c.args.words.now zero made refl
    m.ensures.count_value m.ensures.raw_width_value (take m.result.count m.new.out)
    (taken _ _ _ _ (list_few _ _ _ _ _ (ok c.args.self.now)) c.requires m.ensures.count_value m.ensures.out_after) c.deliver.new.words (number_of r)
    c.in_err-deliver.ensures.value c.in_err-deliver.ensures.words_after in
    rw (listed_passed _ _ c.from_residual.ensures.1) (rw (ne_eqb (number_of r) 0 (some r)) at answered)

pub returns : goal.returns
returns c =
    let m = c.make-made in
    let made : Listed = record { number = 0; count = m.result.count; raw_width = m.result.raw_width } in
    delivered _ _ _ _ _ c.args.words.now c.args.self.now.passed made refl m.ensures.count_value m.ensures.raw_width_value
    (take m.result.count m.new.out)
    (taken _ _ _ _ (list_few _ _ _ _ _ (ok c.args.self.now)) c.requires m.ensures.count_value m.ensures.out_after) c.deliver.new.words 0
    c.in_ok-deliver.ensures.value c.in_ok-deliver.ensures.words_after
