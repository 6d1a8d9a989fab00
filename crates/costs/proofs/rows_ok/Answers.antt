use mathlib.Core.Path.{◌≡◌, sym, ap, ◌∙◌}
use mathlib.Core.Bool.{Bool, true}
use mathlib.Core.List.{List}
use Prim.Native.Nat.{ℕ, ◌+◌, ◌-◌}
use native.Mathlib.Omega.{arith}
use borrow.Author.Count.{below_more}
use Rattle.lists.specs.Counted.{part}
use Rattle.lists.proofs.Counted.{all_below_not, all_below_of}
use Rattle.costs.specs.declared.Row.{Row}
use Rattle.costs.specs.Rows.{row_at, row_ok, table_row_ok, rows_ok}
use Rattle.costs.proofs.rows_ok.Goals as goal

-- the row that is lent is the definition's
row_by : (table : List ℕ) (r : ℕ) (p : Row) (b : Bool) → p ≡ row_at r
    → b ≡ row_ok p.used (part table p.at (p.at + p.room - p.at)) → b ≡ table_row_ok table r
row_by table r p b e h =
    let n : p.at + p.room - p.at ≡ p.room = omega arith in
    h ∙ ap (λ m. row_ok p.used (part table p.at m)) n ∙ ap (λ (q : Row). row_ok q.used (part table q.at q.room)) e

pub returns-then-not-row_ok : goal.returns-then-not-row_ok
unfolding rows_ok
returns-then-not-row_ok c =
    let l = c.loop-r in
    sym (all_below_not (table_row_ok _) 41 l.r c.loop-r-test.true
    (sym (row_by _ l.r _ _ c.row_at-row.ensures.row c.row_ok.ensures) ∙ c.if-not-row_ok.true))

pub loop-r-preserved : goal.loop-r-preserved
loop-r-preserved c =
    let l = c.loop-r in
    below_more (λ i. table_row_ok _ i ≡ true) l.r l.invariant
    (sym (row_by _ l.r _ _ c.row_at-row.ensures.row c.row_ok.ensures) ∙ c.if-not-row_ok.false)

pub returns : goal.returns
unfolding rows_ok
returns c = let l = c.loop-r in sym (all_below_of (table_row_ok _) 41 (λ i h. l.invariant i (omega arith)))
