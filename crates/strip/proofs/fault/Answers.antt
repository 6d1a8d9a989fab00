use mathlib.Core.Path.{◌≡◌, refl, sym, ap, ◌∙◌}
use mathlib.Core.Bool.{true, cond, not, ◌&&◌}
use mathlib.Core.List.{List}
use Prim.Native.Nat.{ℕ}
use lib.Dec.{leb}
use lib.ListN.{length}
use borrow.Author.Tests.{eq-eqb, lt-leb, le-leb}
use Rattle.lists.specs.Counted.{within, all_in}
use Rattle.strip.specs.declared.Places.{Places}
use Rattle.strip.specs.Strip.{blocks_in, count_ok, strip_number}
use Rattle.strip.specs.Steps.{places_to}
use Rattle.strip.proofs.Sides.{all_is}
use Rattle.strip.proofs.fault.Goals.{then-cells-all-via-then-cells-all, then-cells-all-via-else-cells-all+then-lines-all}
use Rattle.strip.proofs.fault.Goals as goal

-- what is left once the samples are counted
rooms : (sides : List ℕ) (samples cells lines : ℕ) (all : Places) → all ≡ places_to sides (blocks_in sides)
    → count_ok (length sides) ≡ true → all_in (within 1 64) sides ≡ true → samples ≡ all.cells
    → strip_number sides samples cells lines ≡ cond (not (leb all.cells cells && leb all.lines lines)) 7 0
unfolding strip_number
rooms sides samples cells lines all is count each sampled =
    rw (count, each, eq-eqb _ _ (sampled ∙ ap (λ (p : Places). p.cells) is), is) refl

pub returns-then-cells-all : goal.returns-then-cells-all
returns-then-cells-all c =
    let a = c.args in
    let all = c.places_of-all in
    let rest = rooms a.sides.now a.samples a.cells a.lines all.result all.ensures (sym c.count_ok.ensures ∙ c.if-not-count_ok.false)
    (sym (c.sides_ok.ensures ∙ all_is _ a.sides.now) ∙ c.if-not-sides_ok.false) c.if-samples-all.false in
    elim c.then-cells-all.branch [
      | then-cells-all-via-then-cells-all w ↦ sym (rest ∙ rw (lt-leb _ _ w.if-cells-all.true) refl)
      | then-cells-all-via-else-cells-all+then-lines-all w ↦
          sym (rest ∙ rw (le-leb _ _ w.if-cells-all.false, lt-leb _ _ w.if-lines-all.true) refl)
    ]

pub returns : goal.returns
returns c =
    let a = c.args in
    let all = c.places_of-all in
    let rest = rooms a.sides.now a.samples a.cells a.lines all.result all.ensures (sym c.count_ok.ensures ∙ c.if-not-count_ok.false)
    (sym (c.sides_ok.ensures ∙ all_is _ a.sides.now) ∙ c.if-not-sides_ok.false) c.if-samples-all.false in
    sym (rest ∙ rw (le-leb _ _ c.if-cells-all.false, le-leb _ _ c.if-lines-all.false) refl)
