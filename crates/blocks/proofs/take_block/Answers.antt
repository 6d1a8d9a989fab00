use native.Mathlib.Omega.{arith}
use borrow.Author.Tests.{ne_eqb}
use mathlib.Core.Path.{◌≡◌, refl, sym, ap, ◌∙◌}
use Rattle.text.specs.declared.Places.{Places}
use Rattle.text.specs.Text.{header_at, text_number}
use Rattle.text.proofs.Sound.{number_ne}
use Rattle.blocks.specs.declared.Block.{Block}
use Rattle.blocks.specs.Block.{refused_block}
use Rattle.blocks.proofs.Few.{with_few}
use Rattle.blocks.proofs.Read.{block_refused, block_read}
use Rattle.blocks.proofs.take_block.Goals as goal

pub returns-in-Ok : goal.returns-in-Ok
returns-in-Ok c =
    let s = c.args.s.now in
    let e = c.in-Ok.ensures in
    let end = ap (λ (x : Places). x.end) c.places_of.ensures.value in
    let l = c.list_block.ensures in
    let b = block_read s c.in-Ok.h e.header.0 (sym e.value) e.header.1 _ _ _ _ _ _ _ _ (omega arith, omega arith, omega arith, omega arith)
    e.colors e.cache e.flags e.map _ end _ l.value c.args.words.now _ l.words_after in
    record { value = with_few s _ b.0; words_after = b.1 }

pub returns-in-Err : goal.returns-in-Err
returns-in-Err c =
    let s = c.args.s.now in
    let e = c.in-Err.ensures.value in
    let r = c.in-Err.refusal in
    let told : c.refuse.result ≡ refused_block (text_number s 0) 0 = c.refuse.ensures ∙ rw (c.number.ensures, e) refl in
    let n : c.refuse.result.number ≡ 0 → ⊥ = λ z. number_ne r (e ∙ sym (ap (λ (b : Block). b.number) told) ∙ z) in record {
      value = with_few s _ (told ∙ block_refused s (header_at s 0) refl (λ z. number_ne r (e ∙ z)));
      words_after = sym (simp (ne_eqb _ _ n));
    }
