-- Where the rows lie: one behind the other, within the table. Assumes nothing.
use mathlib.Core.Path.{◌≡◌, refl, sym}
use mathlib.Core.Bool.{Bool, true, ◌&&◌}
use Prim.Native.Nat.{ℕ, ◌+◌, ◌≤◌, ◌<◌}
use native.Mathlib.Omega.{arith}
use lib.Dec.{leb, eqb}
use borrow.Author.Tests.{eqb-true, leb-true}
use Rattle.lists.specs.Counted.{all_below}
use Rattle.lists.proofs.Choice.{and_l, and_r}
use Rattle.lists.proofs.Counted.{all_below_at}
use Rattle.costs.specs.declared.Row.{Row}
use Rattle.costs.specs.Rows.{row_at}

abbrev behind : Row → Row → Bool
behind p q = eqb q.at (p.at + p.room) && (leb 1 p.used && (leb p.used p.room && leb q.at 260))

all : all_below (λ r. behind (row_at r) (row_at (r + 1))) 41 ≡ true
unfolding all_below row_at
all = refl

-- what row r is
pub record Lies (r : ℕ) (p : Row) : Type 0 where
  pub next : (row_at (r + 1)).at ≡ p.at + p.room
  pub least : 1 ≤ p.used
  pub most : p.used ≤ p.room
  pub inside : p.at + p.room ≤ 260

pub lies : (r : ℕ) (p : Row) → r < 41 → p ≡ row_at r → Lies r p
lies r p h e =
    let q = row_at (r + 1) in
    let t : behind p q ≡ true = rw e (all_below_at (λ r. behind (row_at r) (row_at (r + 1))) 41 all r h) in
    let u = and_r (eqb q.at (p.at + p.room)) _ t in
    let v = and_r (leb 1 p.used) _ u in
    let next : q.at ≡ p.at + p.room = eqb-true _ _ (and_l _ (leb 1 p.used && (leb p.used p.room && leb q.at 260)) t) in
    record {
      next = next;
      least = leb-true 1 _ (and_l _ (leb p.used p.room && leb q.at 260) u);
      most = leb-true _ _ (and_l _ (leb q.at 260) v);
      inside = rw (sym next) (leb-true _ 260 (and_r (leb p.used p.room) _ v));
    }

-- the costs of row r, one more than it has places, lie within the 301
pub costs_inside : (r : ℕ) (p : Row) → r < 41 → p ≡ row_at r → p.at + r + p.room + 1 ≤ 301
costs_inside r p h e = omega (arith, (lies r p h e).inside)
