-- Where the costs of each row stand. Assumes nothing.
use mathlib.Core.Path.{◌≡◌, refl, sym, ap, subst, ◌∙◌}
use mathlib.Core.List.{List}
use Prim.Native.Nat.{ℕ, zero, suc, ◌+◌, ◌-◌, ◌*◌, ◌/◌, ◌≤◌, ◌<◌}
use native.Mathlib.Omega.{arith}
use native.Mathlib.Numerals.{add-one}
use lib.ListN.{length, get_or}
use lib.Ieee.{nan}
use borrow.Author.Tests.{lt-ltb, le-ltb}
use Rattle.lists.specs.Counted.{part, up_to}
use Rattle.lists.proofs.Counted.{length_up_to, length_more, up_to_at}
use Rattle.lists.proofs.Each.{each_at}
use Rattle.costs.specs.declared.Row.{Row}
use Rattle.costs.specs.Rows.{row, row_at}
use Rattle.costs.specs.Costs.{cost_in, row_costs, table_costs}
use Rattle.costs.specs.Made.{StandsInOrder}
use Rattle.costs.proofs.Rows.{lies}

module _ (table : List ℕ) where
  long : (r : ℕ) → length (row_costs table r) ≡ (row_at r).room + 1
  unfolding row_costs
  long r = length_up_to (cost_in (part table (row_at r).at (row_at r).used)) ((row_at r).room + 1)

  -- the costs of row r begin behind those of the rows before it
  starts : (r : ℕ) → r ≤ 41 → length (up_to (row_costs table) r) ≡ (row_at r).at + r
  unfolding row_at up_to
  starts zero h = refl
  starts (suc r) h =
      let next = (lies r (row_at r) (omega arith) refl).next in
      subst (λ k. length (up_to (row_costs table) k) ≡ (row_at k).at + k) (add-one r)
      (omega (arith, next, length_more (row_costs table) r, long r, starts r (omega arith)))

  pub count : length (table_costs table) ≡ 301
  unfolding table_costs row_at
  count = starts 41 (omega arith)

  -- cost s of row r, at place k
  at_row : (r s k : ℕ) (p : Row) → r < 41 → row_at r ≡ p → s ≤ p.room → p.at + r + s ≡ k
      → get_or (table_costs table) k nan ≡ cost_in (part table p.at p.used) s
  unfolding table_costs row_costs
  at_row r s k p h e l d =
      let q = row_at r in
      let w : s ≤ q.room = subst (λ (q : Row). s ≤ q.room) (sym e) l in
      let z : q.at + r + s ≡ k = subst (λ (q : Row). q.at + r + s ≡ k) (sym e) d in
      let there : length (up_to (row_costs table) r) + s ≡ k = omega (arith, z, starts r (omega arith)) in
      let cost : get_or (up_to (row_costs table) 41) (length (up_to (row_costs table) r) + s) nan ≡ cost_in (part table q.at q.used) s =
      up_to_at (row_costs table) nan 41 r s h (omega (arith, long r)) ∙ each_at nan (cost_in (part table q.at q.used)) (q.room + 1) s (omega arith) in
      ap (λ m. get_or (up_to (row_costs table) 41) m nan) (sym there) ∙ cost ∙ ap (λ (q : Row). cost_in (part table q.at q.used) s) e

-- the rows by their kinds
line_row : (c : ℕ) → c < 4 → row_at (2 + c) ≡ row (7 + c * 2) 2 2
unfolding row_at
line_row c h =
    let e : 2 + c - 2 ≡ c = omega arith in
    simp (le-ltb (2 + c) 1 (omega arith), le-ltb (2 + c) 2 (omega arith), lt-ltb (2 + c) 6 (omega arith)) (rw e refl)

colour_row : (k : ℕ) → row_at (6 + k) ≡ row (15 + k * 7) (k / 5 + 1) 7
unfolding row_at
colour_row k =
    let e : 6 + k - 6 ≡ k = omega arith in
    simp (le-ltb (6 + k) 1 (omega arith), le-ltb (6 + k) 2 (omega arith), le-ltb (6 + k) 6 (omega arith)) (rw e refl)

pub stands : StandsInOrder
unfolding row_at
stands table =
    record {
      mode = λ s h. at_row table 0 s s (row 0 1 1) (omega arith) refl (omega arith) (omega arith);
      size = λ n a b. at_row table 1 (n - 2) (2 + (n - 2)) (row 1 6 6) (omega arith) refl (omega arith) (omega arith);
      row = λ c s a b. at_row table (2 + c) s (9 + c * 3 + s) (row (7 + c * 2) 2 2) (omega arith) (line_row c a) (omega arith) (omega arith);
      colour = λ n c s a b d l.
          let k = (n - 2) * 5 + c in
          let used : k / 5 + 1 ≡ n - 1 = omega arith in
          at_row table (6 + k) s (21 + k * 8 + s) (row (15 + k * 7) (k / 5 + 1) 7) (omega arith) (colour_row k) (omega arith) (omega arith)
          ∙ ap (λ u. cost_in (part table (15 + k * 7) u) s) used;
    }
