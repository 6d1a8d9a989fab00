-- The costs row after row: those of the rows before r stand in front. Assumes nothing.
use mathlib.Core.Path.{◌≡◌, refl, sym, ap, subst, ◌∙◌}
use mathlib.Core.List.{List, ◌++◌}
use Prim.Native.Nat.{ℕ, ◌+◌, ◌-◌, ◌≤◌, ◌<◌}
use native.Mathlib.Omega.{arith}
use native.Mathlib.Nat.{le_of_eq}
use lib.ListN.{length, take}
use lib.Seq.{take_all}
use lib.Ieee.{Float}
use borrow.Rule.Slice.PartMut.{mid_of, put_mid, same_len_mid, mid_len}
use Rattle.lists.specs.Counted.{part, up_to, each}
use Rattle.lists.proofs.Counted.{length_up_to, up_to_more}
use Rattle.lists.proofs.Parts.{put_front}
use Rattle.costs.specs.declared.Row.{Row}
use Rattle.costs.specs.Rows.{row_at}
use Rattle.costs.specs.Costs.{cost_in, row_costs, table_costs}
use Rattle.costs.proofs.Rows.{lies, costs_inside}

pub record Begun (table : List ℕ) (costs : List Float) (r : ℕ) : Type 0 where
  pub most : r ≤ 41
  pub count : length costs ≡ 301
  pub front : take ((row_at r).at + r) costs ≡ up_to (row_costs table) r

pub begins : (table : List ℕ) (costs : List Float) → length costs ≡ 301 → Begun table costs 0
unfolding row_at up_to
begins table costs e = record { most = omega arith; count = e; front = refl }

-- row r's costs are put at their places
module _ (table : List ℕ) (costs : List Float) (r : ℕ) (b : Begun table costs r) (h : r < 41) (p : Row) (e : p ≡ row_at r) where
  abbrev from : ℕ
  from = p.at + r

  abbrev to : ℕ
  to = p.at + r + p.room + 1

  inside : to ≤ 301
  inside = costs_inside r p h e

  module _ (row : List ℕ) (new : List Float) (w : row ≡ part table p.at p.used)
      (n : new ≡ each (cost_in row) (length (mid_of from (to - from) costs))) where
    room : length (mid_of from (to - from) costs) ≡ to - from
    room = let c = b.count in mid_len from to costs (omega (arith, inside))

    news : new ≡ row_costs table r
    unfolding row_costs
    news =
        let k : to - from ≡ p.room + 1 = omega arith in
        n ∙ ap (λ m. each (cost_in row) m) (room ∙ k) ∙ ap (λ l. each (cost_in l) (p.room + 1)) w
        ∙ ap (λ (q : Row). each (cost_in (part table q.at q.used)) (q.room + 1)) e

    long : length new ≡ to - from
    long = ap length n ∙ length_up_to (cost_in row) (length (mid_of from (to - from) costs)) ∙ room

    held : take from costs ≡ up_to (row_costs table) r
    held = subst (λ (q : Row). take (q.at + r) costs ≡ up_to (row_costs table) r) (sym e) b.front

    fronts : take to (put_mid from (to - from) costs new) ≡ up_to (row_costs table) (r + 1)
    fronts =
        let c = b.count in
        put_front from to costs new (omega arith) (omega (arith, inside)) long
        ∙ ap (λ x. x ++ new) held ∙ ap (λ x. up_to (row_costs table) r ++ x) news ∙ sym (up_to_more (row_costs table) r)

    pub turn : Begun table (put_mid from (to - from) costs new) (r + 1)
    turn =
        let next = (lies r p h e).next in
        let k : (row_at (r + 1)).at + (r + 1) ≡ to = omega arith in
        record {
          most = omega arith;
          count = same_len_mid from (to - from) costs new (long ∙ sym room) ∙ b.count;
          front = ap (λ m. take m (put_mid from (to - from) costs new)) k ∙ fronts;
        }

pub ends : (table : List ℕ) (costs : List Float) (r : ℕ) → Begun table costs r → 41 ≤ r → costs ≡ table_costs table
unfolding row_at table_costs
ends table costs r b h =
    let m = b.most in
    let e : r ≡ 41 = omega arith in
    let f : take 301 costs ≡ up_to (row_costs table) 41 = subst (λ k. take ((row_at k).at + k) costs ≡ up_to (row_costs table) k) e b.front in
    sym (take_all 301 costs (le_of_eq b.count)) ∙ f
