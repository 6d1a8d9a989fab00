-- Cells and lines read one after the other: what the loops have read so far. Assumes nothing.
use mathlib.Core.Path.{◌≡◌, refl, sym, ap, ◌∙◌}
use mathlib.Core.Bool.{Bool, true, false, cond}
use mathlib.Core.List.{List}
use Prim.Native.Nat.{ℕ, zero, suc, ◌+◌, ◌-◌, ◌<◌, ◌≤◌}
use native.Mathlib.Numerals.{add-one}
use native.Mathlib.Omega.{arith}
use lib.Dec.{eqb}
use lib.ListN.{length, set}
use lib.Seq.{get_or-set_same}
use borrow.Author.Tests.{eqb-false}
use Rattle.near.specs.Near.{Below}
use Rattle.scan.specs.declared.Scan.{Scan}
use Rattle.scan.specs.Scan.{place_at, cell_in, fill}
use Rattle.emit.specs.Map.{row_context}
use Rattle.reader.specs.Reader.{Got, got, fault, after, ret, due, read_up_to}
use Rattle.reader.proofs.Steps.{up_next, up_fault}
use Rattle.read_map.specs.Map.{read_index, read_cell, read_cells, Lines, read_line, read_lines}
use Rattle.read_map.proofs.Ranked.{cell_read}

-- ---- the cells of a line

pub record CellsInv (vs map₀ : List ℕ) (n : ℕ) (s : Scan) (l : ℕ) (map ws : List ℕ) (a : ℕ) : Type 0 where
  pub below : Below map n
  pub reads : read_up_to (read_cell n s l) a map₀ vs ≡ got map ws

pub cells_start : (vs map₀ : List ℕ) (n : ℕ) (s : Scan) (l : ℕ) → Below map₀ n → CellsInv vs map₀ n s l map₀ vs 0
unfolding read_up_to
cells_start vs map₀ n s l b = record { below = b; reads = refl }

module _ (vs map₀ : List ℕ) (n : ℕ) (s : Scan) (l : ℕ) (map ws : List ℕ) (a : ℕ) (v : CellsInv vs map₀ n s l map ws a) where
  cells_more : (g : Got ℕ) → read_index n s l a map ws ≡ g
      → read_up_to (read_cell n s l) (a + 1) map₀ vs ≡ after g (λ i. ret (set map (place_at s l a) i))
  cells_more g e = up_next (read_cell n s l) map₀ vs a map ws _ v.reads (cell_read n s l a map ws g e)

  pub cells_fault : a < s.len → (f : ℕ) → read_index n s l a map ws ≡ fault f → read_up_to (read_cell n s l) s.len map₀ vs ≡ fault f
  cells_fault more f e = up_fault (read_cell n s l) map₀ vs s.len (a + 1) f (omega arith) (cells_more (fault f) e)

  pub cells_turn : (q i : ℕ) (us : List ℕ) → q ≡ place_at s l a → read_index n s l a map ws ≡ got i us → Below (set map q i) n
      → CellsInv vs map₀ n s l (set map q i) us (a + 1)
  cells_turn q i us p e b = record { below = b; reads = rw p (cells_more (got i us) e) }

  pub cells_end : a ≡ s.len → read_up_to (read_cell n s l) s.len map₀ vs ≡ got map ws
  cells_end same = rw same at v.reads

-- ---- a line by its flag

module _ (vs : List ℕ) (n : ℕ) (s : Scan) (l f : ℕ) (map : List ℕ) where
  pub cells_all : (g : Got (List ℕ)) → f ≡ 0 → read_up_to (read_cell n s l) s.len map vs ≡ g → read_cells f n s l map vs ≡ g
  unfolding read_cells
  cells_all g h e = rw h e

  pub cells_constant : (g : Got ℕ) → f ≡ 1 → read_index n s l 0 map vs ≡ g → read_cells f n s l map vs ≡ after g (λ i. ret (fill s l (λ a. i) map s.len))
  unfolding read_cells
  cells_constant g h e = rw h (ap (λ (g : Got ℕ). after g (λ i. ret (fill s l (λ a. i) map s.len))) e)

pub cells_copied : (vs : List ℕ) (n : ℕ) (s : Scan) (l f : ℕ) (map : List ℕ) → (f ≡ 0 → ⊥) → (f ≡ 1 → ⊥)
    → read_cells f n s l map vs ≡ got (fill s l (λ a. cell_in map s (l - 1) a) map s.len) vs
unfolding read_cells
cells_copied vs n s l zero map h k = absurd (h refl)
cells_copied vs n s l (suc zero) map h k = absurd (k refl)
cells_copied vs n s l (suc (suc f)) map h k = refl

-- a first line's flag is below 2
pub flag_later : (l v limit : ℕ) → limit ≡ cond (eqb l 0) 2 3 → v < limit → 2 ≤ v → 0 < l
flag_later l v limit e h k = go (eqb l 0) refl e
  where
    go : (b : Bool) → eqb l 0 ≡ b → limit ≡ cond b 2 3 → 0 < l
    go true p q = absurd (omega arith)
    go false p q = let z : l ≡ 0 → ⊥ = eqb-false l 0 p in omega arith

-- ---- a line

module _ (n : ℕ) (s : Scan) (l : ℕ) (flags map vs : List ℕ) (g : Got ℕ) (k : due 4 (row_context flags l) (cond (eqb l 0) 2 3) vs ≡ g) where
  line_whole : read_line n s l (record { flags = flags; map = map }) vs
      ≡ after g (λ f ws. after (read_cells f n s l map ws) (λ m. ret (record { flags = set flags l f; map = m })))
  unfolding read_line
  line_whole = ap (λ (g : Got ℕ). after g (λ f ws. after (read_cells f n s l map ws) (λ m. ret (record { flags = set flags l f; map = m })))) k

line_sent : (n : ℕ) (s : Scan) (l f : ℕ) (flags map ws : List ℕ) (g : Got (List ℕ)) → read_cells f n s l map ws ≡ g
    → after {B = Lines} (read_cells f n s l map ws) (λ m. ret (record { flags = set flags l f; map = m }))
    ≡ after g (λ m. ret (record { flags = set flags l f; map = m }))
line_sent n s l f flags map ws g e = ap (λ (g : Got (List ℕ)). after {B = Lines} g (λ m. ret (record { flags = set flags l f; map = m }))) e

context_set : (flags : List ℕ) (l f : ℕ) → l < length flags → f ≡ row_context (set flags l f) (l + 1)
unfolding row_context
context_set flags l f h = rw add-one (sym (get_or-set_same flags l f 0 h))

-- ---- all lines

pub record LinesInv (vs map₀ flags₀ : List ℕ) (n : ℕ) (s : Scan) (map flags ws : List ℕ) (ctx l : ℕ) : Type 0 where
  pub below : Below map n
  pub context : ctx ≡ row_context flags l
  pub small : ctx ≤ 3
  pub reads : read_up_to (read_line n s) l (record { flags = flags₀; map = map₀ }) vs ≡ got (record { flags = flags; map = map }) ws

pub lines_start : (vs map₀ flags₀ : List ℕ) (n : ℕ) (s : Scan) → Below map₀ n → LinesInv vs map₀ flags₀ n s map₀ flags₀ vs 3 0
unfolding read_up_to row_context
lines_start vs map₀ flags₀ n s b = record { below = b; context = refl; small = omega arith; reads = refl }

module _ (vs map₀ flags₀ : List ℕ) (n : ℕ) (s : Scan) (map flags ws : List ℕ) (ctx l : ℕ) (v : LinesInv vs map₀ flags₀ n s map flags ws ctx l) where
  abbrev start : Lines
  start = record { flags = flags₀; map = map₀ }

  pub lines_end : l ≡ s.lines → read_lines n s start vs ≡ got (record { flags = flags; map = map }) ws
  unfolding read_lines
  lines_end same = rw same at v.reads

  module _ (limit : ℕ) (is : limit ≡ cond (eqb l 0) 2 3) where
    lines_more : (g : Got ℕ) → due 4 ctx limit ws ≡ g → read_up_to (read_line n s) (l + 1) start vs
        ≡ after g (λ f us. after (read_cells f n s l map us) (λ m. ret (record { flags = set flags l f; map = m })))
    lines_more g k =
        let took : due 4 (row_context flags l) (cond (eqb l 0) 2 3) ws ≡ g = rw (← v.context, ← is) k in
        up_next (read_line n s) start vs l (record { flags = flags; map = map }) ws _ v.reads (line_whole n s l flags map ws g took)

    stop : (f : ℕ) → l < s.lines → read_up_to (read_line n s) (l + 1) start vs ≡ fault f → read_lines n s start vs ≡ fault f
    unfolding read_lines
    stop f more e = up_fault (read_line n s) start vs s.lines (l + 1) f (omega arith) e

    pub lines_unflagged : l < s.lines → (f : ℕ) → due 4 ctx limit ws ≡ fault f → read_lines n s start vs ≡ fault f
    lines_unflagged more f k = stop f more (lines_more (fault f) k)

    pub lines_fault : l < s.lines → (flag : ℕ) (us : List ℕ) → due 4 ctx limit ws ≡ got flag us
        → (f : ℕ) → read_cells flag n s l map us ≡ fault f → read_lines n s start vs ≡ fault f
    lines_fault more flag us k f e = stop f more (lines_more (got flag us) k ∙ line_sent n s l flag flags map us (fault f) e)

    pub lines_turn : l < length flags → (flag : ℕ) (us : List ℕ) → due 4 ctx limit ws ≡ got flag us
        → (next xs : List ℕ) → read_cells flag n s l map us ≡ got next xs → Below next n → flag ≤ 3
        → LinesInv vs map₀ flags₀ n s next (set flags l flag) xs flag (l + 1)
    lines_turn inside flag us k next xs e below few = record {
      below = below;
      context = context_set flags l flag inside;
      small = few;
      reads = lines_more (got flag us) k ∙ line_sent n s l flag flags map us (got next xs) e;
    }
