use borrow.Author.Rules.{rules}
use borrow.Author.Tests.{eq-eqb, ne_eqb}
use mathlib.Core.Path.{◌≡◌, sym, refl, ◌∙◌}
use Rattle.text.specs.Text.{header_fault, text_number}
use Rattle.text.proofs.Sound.{sound, passed_on, number_ne}
use Rattle.text.proofs.text_fault.Goals as goal

pub returns-then-not-is_line-number_at : goal.returns-then-not-is_line-number_at
unfolding text_number
returns-then-not-is_line-number_at c =
    let formed = rw (c.is_line.ensures, c.number_at.ensures) at c.if-not-is_line-number_at.true in
    sym (rw formed refl)

pub returns-in_err-header_fault : goal.returns-in_err-header_fault
unfolding text_number
returns-in_err-header_fault c =
    let formed = rw (c.is_line.ensures, c.number_at.ensures) at c.if-not-is_line-number_at.false in
    let fault = c.in_err-header_fault.ensures in
    let some : header_fault c.args.h ≡ 0 → ⊥ = λ z. number_ne _ (fault ∙ z) in
    passed_on _ _ c.from_residual.ensures.1 ∙ fault ∙ rw (← c.requires.0) (sym (simp (formed, ne_eqb _ _ some)))

pub is_body-requires : goal.is_body-requires
is_body-requires c = (sound _ (sym c.in_ok-header_fault.ensures), search rules)

pub returns-then-not-is_body : goal.returns-then-not-is_body
unfolding text_number
returns-then-not-is_body c =
    let formed = rw (c.is_line.ensures, c.number_at.ensures) at c.if-not-is_line-number_at.false in
    rw (← c.requires.0)
    (sym (simp (formed, eq-eqb _ _ (sym c.in_ok-header_fault.ensures), sym c.is_body.ensures ∙ c.if-not-is_body.true)))

pub returns : goal.returns
unfolding text_number
returns c =
    let formed = rw (c.is_line.ensures, c.number_at.ensures) at c.if-not-is_line-number_at.false in
    rw (← c.requires.0)
    (sym (simp (formed, eq-eqb _ _ (sym c.in_ok-header_fault.ensures), sym c.is_body.ensures ∙ c.if-not-is_body.false)))
