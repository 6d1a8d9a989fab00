-- The index of a cell by the word read. Assumes nothing.
use mathlib.Core.Path.{◌≡◌, refl, sym, ap, ◌∙◌}
use mathlib.Core.List.{List}
use Prim.Native.Nat.{ℕ, ◌+◌, ◌*◌, ◌-◌, ◌<◌}
use native.Mathlib.Omega.{arith}
use lib.ListN.{get_or, set}
use borrow.Author.Tests.{eq-eqb, ne_eqb}
use Rattle.context.specs.Map.{row_at, col_at}
use Rattle.context.specs.Order.{Around, order_of}
use Rattle.context.proofs.Around.{around_ctx}
use Rattle.rows.specs.Rows.{order_row}
use Rattle.near.specs.declared.Key.{Key}
use Rattle.near.specs.Near.{Keyed}
use Rattle.near.proofs.Keys.{keyed, key_index, key_index_below}
use Rattle.scan.specs.declared.Scan.{Scan}
use Rattle.scan.specs.Scan.{place_at, around_in, key_in}
use Rattle.reader.specs.Reader.{Got, got, fault, after, ret, due}
use Rattle.read_map.specs.Map.{read_ranked, read_index, read_cell}
use Rattle.read_map.specs.Plan.{Ready}
use Rattle.read_map.specs.declared.Plan.{Plan}

module _ (p : Plan) (map : List ℕ) (l a : ℕ) (ready : Ready p map) (k : Key) (is : k ≡ key_in map p.scan l a) where
  abbrev s : Scan
  s = p.scan

  abbrev n : ℕ
  n = p.n

  abbrev y : ℕ
  y = row_at s.transposed l a

  abbrev x : ℕ
  x = col_at s.transposed l a

  abbrev o : Around
  o = around_in map s l a

  key : Keyed o n k
  key = rw is (keyed map s.w y x n ready.below (omega (arith, p.two)) p.eight)

  pub row_low : k.row < 512
  row_low = key.fits.0

  pub ctx_low : k.ctx < 5
  ctx_low = rw key.ctx (around_ctx map s.w y x)

  module _ (vs : List ℕ) (g : Got ℕ) (took : due 5 ((n - 2) * 5 + k.ctx) n vs ≡ g) where
    ranked_whole : read_ranked n o vs ≡ after g (λ r. ret (get_or (order_of o n) r 0))
    unfolding read_ranked
    ranked_whole =
        ap (λ (g : Got ℕ). after g (λ r. ret (get_or (order_of o n) r 0)))
        (ap (λ (v : ℕ). due 5 ((n - 2) * 5 + v) n vs) (sym key.ctx) ∙ took)

  pub ranked_fault : (vs : List ℕ) (f : ℕ) → due 5 ((n - 2) * 5 + k.ctx) n vs ≡ fault f → read_ranked n o vs ≡ fault f
  ranked_fault vs f took = ranked_whole vs (fault f) took

  module _ (r i : ℕ) (low : r < n) (e : i ≡ get_or (order_row k.row) r 0) where
    of_order : i ≡ get_or (order_of o n) r 0
    of_order = e ∙ key_index o n k key p.eight r low

    pub ranked_low : i < n
    ranked_low = rw of_order (key_index_below o n k key p.eight r low)

    pub ranked_got : (vs ws : List ℕ) → due 5 ((n - 2) * 5 + k.ctx) n vs ≡ got r ws → read_ranked n o vs ≡ got i ws
    ranked_got vs ws took = ranked_whole vs (got r ws) took ∙ ap (λ (v : ℕ). got v ws) (sym of_order)

pub index_first : (map : List ℕ) (s : Scan) (n l a : ℕ) (vs : List ℕ) → l + a ≡ 0 → read_index n s l a map vs ≡ due 2 n n vs
unfolding read_index
index_first map s n l a vs e = rw (eq-eqb (l + a) 0 e) refl

pub index_ranked : (map : List ℕ) (s : Scan) (n l a : ℕ) (vs : List ℕ) → (l + a ≡ 0 → ⊥)
    → read_index n s l a map vs ≡ read_ranked n (around_in map s l a) vs
unfolding read_index
index_ranked map s n l a vs e = rw (ne_eqb (l + a) 0 e) refl

pub cell_read : (n : ℕ) (s : Scan) (l a : ℕ) (map vs : List ℕ) (g : Got ℕ) → read_index n s l a map vs ≡ g
    → read_cell n s l a map vs ≡ after g (λ i. ret (set map (place_at s l a) i))
unfolding read_cell
cell_read n s l a map vs g e = ap (λ (g : Got ℕ). after g (λ i. ret (set map (place_at s l a) i))) e
