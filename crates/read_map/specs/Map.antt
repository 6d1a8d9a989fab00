-- Document 02, L2: flags and map read back; the rules are those of document 01, 'Map' and 'Context'.
use Rattle.std.specs.Prelude.{ℕ, zero, suc, ◌+◌, ◌*◌, ◌-◌, cond, List, eqb, get_or, set}
use Rattle.context.specs.Order.{Around, order_of}
use Rattle.scan.specs.declared.Scan.{Scan}
use Rattle.scan.specs.Scan.{place_at, cell_in, fill, around_in}
use Rattle.emit.specs.Map.{row_context}
use Rattle.reader.specs.Reader.{Reader, ◌>>=◌, ret, due, read_up_to}

-- the index at the rank read, in the order of a context
unfoldable pub read_ranked : ℕ → Around → Reader ℕ
read_ranked n o = due 5 ((n - 2) * 5 + o.ctx) n >>= λ r. ret (get_or (order_of o n) r 0)

-- the index of cell a of line l: uniform at (0,0), else by rank
unfoldable pub read_index : ℕ → Scan → ℕ → ℕ → List ℕ → Reader ℕ
read_index n s l a map = cond (eqb (l + a) 0) (due 2 n n) (read_ranked n (around_in map s l a))

unfoldable pub read_cell : ℕ → Scan → ℕ → ℕ → List ℕ → Reader (List ℕ)
read_cell n s l a map = read_index n s l a map >>= λ i. ret (set map (place_at s l a) i)

-- a line's cells by its flag: all read; one read, the line constant; the line before copied
unfoldable pub read_cells : ℕ → ℕ → Scan → ℕ → List ℕ → Reader (List ℕ)
read_cells zero n s l map = read_up_to (read_cell n s l) s.len map
read_cells (suc zero) n s l map = read_index n s l 0 map >>= λ i. ret (fill s l (λ a. i) map s.len)
read_cells (suc (suc f)) n s l map = ret (fill s l (λ a. cell_in map s (l - 1) a) map s.len)

pub record Lines : Type 0 where
  pub flags : List ℕ
  pub map : List ℕ

-- the flag of line l, of which the first is at most 1, and its cells
unfoldable pub read_line : ℕ → Scan → ℕ → Lines → Reader Lines
read_line n s l t =
    due 4 (row_context t.flags l) (cond (eqb l 0) 2 3)
    >>= λ f. read_cells f n s l t.map
    >>= λ m. ret (record { flags = set t.flags l f; map = m })

-- all lines, into flags and map as they are at first
unfoldable pub read_lines : ℕ → Scan → Lines → Reader Lines
read_lines n s t = read_up_to (read_line n s) s.lines t
