-- Lines of the report: four fields in front of the rest, lengths, and the ends of a step. Assumes nothing.
use Prim.Native.Nat.{ℕ, ◌+◌, ◌<◌}
use mathlib.Core.Path.{◌≡◌, refl, sym, ap, ◌∙◌}
use mathlib.Core.Bool.{true, false}
use mathlib.Core.List.{List, [], ◌∷◌, ◌++◌, append_assoc, append-nil}
use native.Mathlib.Omega.{arith}
use lib.Dec.{eqb}
use lib.ListN.{length, length-append}
use borrow.Author.Tests.{eq-eqb, ne_eqb}
use Rattle.lists.specs.Written.{written}
use Rattle.lists.proofs.Written.{then}
use Rattle.lists.proofs.Choice.{either_way}
use Rattle.printing.specs.Printing.{field, line}
use Rattle.printing.proofs.Laws.{length_field, length_line}
use Rattle.blocks.specs.declared.Block.{Block}
use Rattle.blocks.specs.Block.{refused_block, block_of}
use Rattle.reporting.specs.declared.Page.{Page}
use Rattle.reporting.specs.Fraction.{fraction}
use Rattle.reporting.specs.Report.{block_line, last_line}
use Rattle.reporting.specs.Steps.{with, next_block, taken_of, page_after, printed_of, Steps}

-- four fields, then the rest of the line
pub four_then : (l m : List ℕ) (at pos a b c d : ℕ) (vs : List ℕ) → m ≡ written l at (field a ++ (field b ++ (field c ++ field d)))
    → pos ≡ at + 32 → written m pos (line vs) ≡ written l at (line (a ∷ b ∷ c ∷ d ∷ vs))
unfolding line
four_then l m at pos a b c d vs e p =
    let four = field a ++ (field b ++ (field c ++ field d)) in
    let long : length four ≡ 32 =
    omega (
      arith,
      length-append (field a) (field b ++ (field c ++ field d)),
      length-append (field b) (field c ++ field d),
      length-append (field c) (field d),
      length_field a,
      length_field b,
      length_field c,
      length_field d,
    ) in
    then l m at pos four (line vs) e (omega (arith, p, long)) ∙ ap (λ (ws : List ℕ). written l at ws) (simp append_assoc)

-- ---- a block's line, and the last one

pub block_zero : (k : ℕ) (b : Block) → b.number ≡ 0 → line (k ∷ b.calls ∷ b.cells ∷ b.raw ∷ []) ≡ block_line k b
unfolding block_line
block_zero k b e = sym (simp (eq-eqb _ _ e))

pub block_more : (k : ℕ) (b : Block) → (b.number ≡ 0 → ⊥) → line (k ∷ b.calls ∷ b.cells ∷ b.raw ∷ b.number ∷ []) ≡ block_line k b
unfolding block_line
block_more k b n = sym (simp (ne_eqb _ _ n))

pub last_is : (p : Page) (n d : ℕ) → n ∷ d ∷ [] ≡ fraction p.raw p.cells
    → line (0 ∷ p.calls ∷ p.cells ∷ p.raw ∷ n ∷ d ∷ []) ≡ last_line p
unfolding last_line
last_is p n d e = ap (λ (vs : List ℕ). line (0 ∷ p.calls ∷ p.cells ∷ p.raw ∷ vs)) e

fraction_two : (a b : ℕ) → length (fraction a b) ≡ 2
unfolding fraction
fraction_two a b = either_way (λ (l : List ℕ). length l ≡ 2) (eqb b 0) _ _ refl refl

pub length_last : (p : Page) → length (last_line p) ≡ 49
unfolding last_line
length_last p =
    length_line (0 ∷ p.calls ∷ p.cells ∷ p.raw ∷ fraction p.raw p.cells) ∙ omega (arith, fraction_two p.raw p.cells)

-- ---- the next block

pub one_too_many : (p : Page) (s : List ℕ) → p.lines ≡ 9999 → refused_block 19 0 ≡ next_block p s
unfolding next_block
one_too_many p s e = sym (simp (eq-eqb _ _ e))

pub later_block : (p : Page) (s : List ℕ) → (p.lines ≡ 9999 → ⊥) → block_of s ≡ next_block p s
unfolding next_block
later_block p s n = sym (simp (ne_eqb _ _ n))

-- ---- the three ends of a step

module _ (s : List ℕ) (p : Page) (before : List ℕ) where
  pub step_empty : (after : List ℕ) (count : ℕ) → length s ≡ 0 → count ≡ 0 + length (last_line p) → after ≡ written before 0 (last_line p)
      → Steps s p before after (record { count = count; taken = 0; page = p })
  unfolding printed_of taken_of page_after
  step_empty after count z c e =
      let y : eqb (length s) 0 ≡ true = eq-eqb _ _ z in
      record { taken = sym (simp y); page = sym (simp y); count = rw y (omega arith); printed = rw y e }

  module _ (b : Block) (is : b ≡ next_block p s) (some : 0 < length s) (mid : List ℕ) (end : ℕ)
      (long : end ≡ length (block_line (p.lines + 1) b)) (put : mid ≡ written before 0 (block_line (p.lines + 1) b))
      (page : Page) (sums : page ≡ with p b) where
    abbrev no : eqb (length s) 0 ≡ false
    no = ne_eqb (length s) 0 (λ z. omega arith)

    pub step_ended : (after : List ℕ) (count : ℕ) → b.taken ≡ 0 → count ≡ end + length (last_line page)
        → after ≡ written mid end (last_line page) → Steps s p before after (record { count = count; taken = b.taken; page = page })
    unfolding printed_of taken_of page_after
    step_ended after count z c e =
        let y : eqb b.taken 0 ≡ true = eq-eqb _ _ z in
        let whole = then before mid 0 end (block_line (p.lines + 1) b) (last_line page) put (omega arith) in
        record {
          taken = rw (no, ← is) refl;
          page = rw (no, ← is) sums;
          count = rw (no, ← is, y, ← sums) (omega (arith, length-append (block_line (p.lines + 1) b) (last_line page)));
          printed = rw (no, ← is, y, ← sums) (e ∙ whole);
        }

    pub step_going : (b.taken ≡ 0 → ⊥) → Steps s p before mid (record { count = end; taken = b.taken; page = page })
    unfolding printed_of taken_of page_after
    step_going n =
        let y : eqb b.taken 0 ≡ false = ne_eqb _ _ n in
        let l = block_line (p.lines + 1) b in
        record {
          taken = rw (no, ← is) refl;
          page = rw (no, ← is) sums;
          count = rw (no, ← is, y) (long ∙ ap length (sym (append-nil l)));
          printed = rw (no, ← is, y) (put ∙ ap (λ (x : List ℕ). written before 0 x) (sym (append-nil l)));
        }
