-- The original starts from a cost of +infinity, of a line and of a cell, and comes to the same as the definition: every cost is finite.
-- Assumes nothing.
use Prim.Native.Nat.{ℕ, ◌*◌, ◌^◌, ◌≤◌, ◌<◌}
use mathlib.Core.Bool.{false, cond}
use mathlib.Core.Path.{◌≡◌, refl}
use mathlib.Core.List.{List, [], ◌∷◌, ◌++◌}
use native.Mathlib.Omega.{arith}
use lib.Dec.{eqb, lit≤, lit<}
use lib.ListN.{get_or, length, length-append}
use lib.Ieee.{Float, inf, nan, binary32, mul}
use Rattle.ieee.specs.Bounds.{Under}
use Rattle.ieee.proofs.Bounds.{add_under, mul_under, under_mono, under_lt}
use Rattle.context.specs.Order.{order_of}
use Rattle.near.specs.Near.{Below}
use Rattle.cells.specs.declared.Pick.{Pick}
use Rattle.cells.specs.Cell.{total_of, cheapest, first_cheapest, squares_of, pick_at, ranked, chosen}
use Rattle.cells.proofs.Cheapest.{All, all_mono}
use Rattle.scan.specs.declared.Scan.{Scan}
use Rattle.map_search.specs.declared.Choice.{Choice}
use Rattle.scan.specs.Scan.{place_at, around_in}
use Rattle.map_search.specs.Lines.{rates_at, copied, constants, own, candidates, line_of}
use Rattle.map_search.proofs.Sums.{rep_sum}
use Rattle.map_search.proofs.Neighbours.{order_in}
use Rattle.map_search.proofs.CellBounds.{InRange, squares_within, cell_rates_within}
use Rattle.map_search.proofs.LineBounds.{Bounded, candidates_bounded}

-- a candidate that is finite takes the place of one that is infinite
start_first : {A : Type 0} (total : A → Float) (x a : A) (ys : List A) (B : ℕ) → total x ≡ inf false → Under (total a) B
    → cheapest total x (a ∷ ys) ≡ cheapest total a ys
unfolding cheapest
start_first total x a ys B e u = rw (e, under_lt (total a) B u) refl

start_any : {A : Type 0} (total : A → Float) (x given : A) (ys : List A) (B : ℕ) → total x ≡ inf false → 0 < length ys
    → All (λ a. Under (total a) B) ys → cheapest total x ys ≡ first_cheapest total given ys
unfolding first_cheapest
start_any total x given [] B e some u = absurd (omega arith)
start_any total x given (a ∷ ys) B e some u = start_first total x a ys B e u.0

module _ (samples costs colours : List Float) (n : ℕ) (lambda : Float) (s : Scan) (known : InRange samples costs colours n s)
    (weight : Under lambda (2 ^ 20)) (m : List ℕ) (l : ℕ) (below : Below m n) (on : l < s.lines) where
  abbrev total : Choice → Float
  total c = total_of c.cost lambda

  total_under : (c : Choice) → Bounded c → Under (total c) (2 * 2 ^ 32)
  total_under c bounded =
      add_under binary32 c.cost.dist (mul binary32 lambda c.cost.rate) (2 ^ 32) (2 ^ 32) bounded.0.0
      (mul_under binary32 lambda c.cost.rate (2 ^ 20) (2 ^ 12) weight bounded.1.0 (rep_sum 1 32 (lit< tt) (lit≤ tt)))
      (rep_sum 2 32 (lit< tt) (lit≤ tt))

  pub line_start : (x : Choice) (ctx : ℕ) → total x ≡ inf false → ctx ≤ 3
      → cheapest total x (candidates samples costs colours n lambda s m l ctx) ≡ line_of samples costs colours n lambda s m l ctx
  unfolding line_of
  line_start x ctx e context =
      start_any total x (own samples costs colours n lambda s m l ctx) (candidates samples costs colours n lambda s m l ctx) (2 * 2 ^ 32) e some
      (all_mono Bounded (λ c. Under (total c) (2 * 2 ^ 32)) total_under (candidates samples costs colours n lambda s m l ctx)
      (candidates_bounded samples costs colours n lambda s known m l ctx below on context))
    where
      some : 0 < length (candidates samples costs colours n lambda s m l ctx)
      some = unfold candidates in (
          let copy = cond (eqb l 0) [] (copied samples costs colours n lambda s m l ctx ∷ []) in
          let constant = constants samples costs colours n lambda s m l ctx 0 n in
          let last = own samples costs colours n lambda s m l ctx ∷ [] in
          omega (arith, length-append copy (constant ++ last), length-append constant last)
          )

  module _ (a : ℕ) (inside : a < s.len) where
    abbrev dists : List Float
    dists = squares_of (get_or samples (place_at s l a) nan) colours

    abbrev rates : List Float
    rates = rates_at samples costs colours n lambda s m l a

    pick_under : (i : ℕ) → i < n → Under (pick_at dists rates lambda 0 i).total (2 * 2 ^ 26)
    pick_under i under =
        let rate = get_or rates 0 nan in
        let square = squares_within samples costs colours n lambda s known l a i on inside under in
        let first = cell_rates_within samples costs colours n lambda s known m l below on a 0 (omega arith) in
        let weighed = mul_under binary32 lambda rate (2 ^ 20) (2 ^ 5) weight first.0 (rep_sum 1 25 (lit< tt) (lit≤ tt)) in
        add_under binary32 (get_or dists i nan) (mul binary32 lambda rate) (2 ^ 26) (2 ^ 26) square.0
        (under_mono (mul binary32 lambda rate) (2 ^ 25) (2 ^ 26) (lit≤ tt) weighed) (rep_sum 2 26 (lit< tt) (lit≤ tt))

    pub cell_start : (x : Pick) → x.total ≡ inf false
        → cheapest (λ (p : Pick). p.total) x (ranked dists rates lambda 0 (order_of (around_in m s l a) n))
        ≡ chosen dists rates lambda (order_of (around_in m s l a) n)
    cell_start x e =
        let order = order_in m s l a n below (omega (arith, known.two)) known.most in
        by_order (order_of (around_in m s l a) n) order.2 order.0
      where
        by_order : (is : List ℕ) → 0 < length is → All (λ i. i < n) is
            → cheapest (λ (p : Pick). p.total) x (ranked dists rates lambda 0 is) ≡ chosen dists rates lambda is
        by_order [] some under = absurd (omega arith)
        by_order (i ∷ is) some under = unfold ranked chosen first_cheapest in
            (start_first (λ (p : Pick). p.total) x (pick_at dists rates lambda 0 i) (ranked dists rates lambda 1 is) (2 * 2 ^ 26) e
            (pick_under i under.0))
