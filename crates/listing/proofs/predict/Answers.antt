use Rattle.std.proofs.Common.{ℕ, ◌<◌, ◌≤◌, ◌*◌, ◌≡◌, refl, sym, ap, ◌∙◌, List, [], arith, rules, length, get_or}
use Rattle.std.proofs.lemmas.Bool.{ne_eqb, le-leb, lt-leb}
use Rattle.accept.specs.Palette.{first_colors}
use Rattle.accept.specs.Mapped.{palette_in}
use Rattle.accept.specs.declared.Mapped.{Mapped}
use Rattle.accept.specs.Accepted.{refusal, Accepted}
use Rattle.accept.proofs.Accepted.{Facts, accepted_of_zero, facts}
use Rattle.accept.proofs.Levels.{first_colors_holds, length_first, few_given}
use Rattle.listing.specs.Listing.{values_of, pred_number}
use Rattle.listing.proofs.Refused.{some, number_passed}
use Rattle.listing.proofs.Values.{values_first}
use Rattle.listing.proofs.predict.Goals as goal

-- past the first return
module _ (b : Mapped) (eight : length b.colors ≡ 8) (zero : refusal b.width b.height b.bd 0 (palette_in b) ≡ 0) where
  accepted : Accepted b.width b.height b.bd [] (palette_in b)
  accepted = accepted_of_zero _ _ _ [] _ zero

  known : Facts b.width b.height b.bd (palette_in b)
  known = facts _ _ _ _ _ accepted

  few : b.n ≤ 8
  few = few_given b.colors eight b.bd b.n accepted.colors

  below : (i : ℕ) → i < length b.map.now → get_or b.map.now i 0 < b.n
  below i g = rw (length_first b.colors eight b.n few) at (known.index i (omega (arith, known.map_length)))

  -- the colours past n are not read
  same : values_of b.colors b.map.now ≡ values_of (first_colors b.colors b.n) b.map.now
  same = sym (values_first b.colors b.map.now b.n below) ∙ ap (λ (l : List ℕ). values_of l b.map.now) (sym (first_colors_holds b.colors eight b.n few))

pub returns-in_err-fault : goal.returns-in_err-fault
unfolding pred_number
returns-in_err-fault c =
    let f = c.in_err-fault in
    let above = some f.field-0.0 in
    rw (number_passed _ _ c.from_residual.ensures.1)
    (record { number = rw (← f.ensures) (simp (ne_eqb _ 0 above)); values = simp (ne_eqb _ 0 above) })

pub returns-then-values-block : goal.returns-then-values-block
unfolding pred_number
returns-then-values-block c =
    let b = c.args.block.now in
    let eight : length b.colors ≡ 8 = search rules in
    let zero = sym c.in_ok-fault.ensures in
    let m = (known b eight zero).map_length in
    record {
      number = rw zero (simp (lt-leb (b.width * b.height) (length c.args.values.now) (omega (arith, c.if-values-block.true, m))));
      values = refl;
    }

pub fill_values-requires-clause-by_index : goal.fill_values-requires-clause-by_index
fill_values-requires-clause-by_index c =
    let b = c.args.block.now in
    let eight : length b.colors ≡ 8 = search rules in
    let zero = sym c.in_ok-fault.ensures in
    λ i g. omega (arith, below b eight zero i g, few b eight zero)

pub returns : goal.returns
unfolding pred_number
returns c =
    let b = c.args.block.now in
    let eight : length b.colors ≡ 8 = search rules in
    let zero = sym c.in_ok-fault.ensures in
    let m = (known b eight zero).map_length in
    record {
      number = rw zero (simp (le-leb (b.width * b.height) (length c.args.values.now) (omega (arith, c.if-values-block.false, m))));
      values = c.fill_values.ensures ∙ rw (same b eight zero, m) refl;
    }
