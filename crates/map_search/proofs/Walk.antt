-- The walk over the lines, by one line more and at its end. Assumes nothing.
use Prim.Native.Nat.{ℕ, suc, ◌+◌, ◌-◌, ◌≤◌, ◌<◌}
use mathlib.Core.Bool.{cond}
use mathlib.Core.Path.{◌≡◌, refl, ap, ◌∙◌}
use mathlib.Core.List.{List}
use native.Mathlib.Omega.{arith}
use lib.Ieee.{Float}
use lib.ListN.{length, set, length-set}
use Rattle.near.specs.Near.{Below}
use Rattle.cells.specs.declared.Cost.{Cost}
use Rattle.cells.specs.Cell.{plus}
use Rattle.scan.specs.declared.Scan.{Scan}
use Rattle.map_search.specs.declared.Choice.{Choice}
use Rattle.std.specs.Prelude.{Some, None}
use Rattle.map_search.specs.Lines.{line_of, put_line, Walk, Ended, next, reached, rest_of}
use Rattle.map_search.proofs.LineChoice.{line_plain}
use Rattle.map_search.proofs.PutLine.{length_put, put_below}

module _ (samples costs colours : List Float) (n : ℕ) (lambda : Float) (s : Scan) where
  abbrev next_walk : Walk → ℕ → Walk
  next_walk t l = next samples costs colours n lambda s t l

  pub next_by : (t : Walk) (l : ℕ) (c : Choice) (m : List ℕ) (cost : Cost) → c ≡ line_of samples costs colours n lambda s t.map l t.ctx
      → m ≡ put_line samples costs colours n lambda s t.map l t.ctx c → cost ≡ plus t.cost c.cost
      → next_walk t l ≡ record { map = m; flags = set t.flags l c.flag; ctx = c.flag; cost = cost }
  next_by t l c m cost e f g = rw (g, f, e) refl

  module _ (head bound : Float) where
    abbrev rest : ℕ → ℕ → Walk → Ended
    rest k l t = rest_of samples costs colours n lambda s head bound k l t

    -- the walk ends where the bound is reached, or goes on with the next line
    abbrev pub goes_on : ℕ → ℕ → Walk → Ended
    goes_on k l t =
        cond (reached samples costs colours n lambda s head bound t) (record { map = t.map; flags = t.flags; result = None }) (rest k l t)

    rest_step : (lines l : ℕ) (t : Walk) → l < lines → rest (lines - l) l t ≡ goes_on (lines - (l + 1)) (l + 1) (next_walk t l)
    unfolding rest_of
    rest_step lines l t more = let e : lines - l ≡ suc (lines - (l + 1)) = omega arith in rw e refl

    -- walk t with one line more is walk u: the rest, and what is kept
    pub record Turned (lines l : ℕ) (t u : Walk) : Type 0 where
      pub rest_same : rest (lines - l) l t ≡ goes_on (lines - (l + 1)) (l + 1) u
      pub map_kept : length u.map ≡ length t.map
      pub flags_kept : length u.flags ≡ length t.flags
      pub below : Below u.map n
      pub context : u.ctx ≤ 2

    -- by what a function found: the choice, the map with it and the costs so far
    pub turned : 2 ≤ n → n ≤ 8 → (lines l : ℕ) (t : Walk) (c : Choice) (m : List ℕ) (cost : Cost) → l < lines → Below t.map n
        → c ≡ line_of samples costs colours n lambda s t.map l t.ctx → m ≡ put_line samples costs colours n lambda s t.map l t.ctx c
        → cost ≡ plus t.cost c.cost
        → Turned lines l t (record { map = m; flags = set t.flags l c.flag; ctx = c.flag; cost = cost })
    turned two most lines l t c m cost more below is-line is-put is-cost =
        let some : 0 < n = omega arith in
        let plain : (c.flag ≤ 2) × (c.index < n) = rw is-line (line_plain samples costs colours n lambda s t.map l t.ctx some) in
        record {
          rest_same = rest_step lines l t more ∙ ap (goes_on (lines - (l + 1)) (l + 1)) (next_by t l c m cost is-line is-put is-cost);
          map_kept = rw is-put (length_put samples costs colours n lambda s t.map l t.ctx c);
          flags_kept = length-set t.flags l c.flag;
          below = rw is-put (put_below samples costs colours n lambda s t.map l t.ctx c some most plain.1 below);
          context = plain.0;
        }

    pub rest_none : (lines l : ℕ) (t : Walk) → lines ≤ l
        → rest (lines - l) l t ≡ record { map = t.map; flags = t.flags; result = Some t.cost }
    unfolding rest_of
    rest_none lines l t done = let e : lines - l ≡ 0 = omega arith in rw e refl
