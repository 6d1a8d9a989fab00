-- Document 02, L1: one step of the program, over what it has before it, and what pages hold at most.
use Rattle.std.specs.Prelude.{ℕ, ◌+◌, ◌*◌, ◌≤◌, ◌≡◌, cond, List, [], ◌++◌, eqb, length}
use Rattle.lists.specs.Written.{written}
use Rattle.blocks.specs.declared.Block.{Block}
use Rattle.blocks.specs.Block.{refused_block, block_of}
use Rattle.reporting.specs.declared.Page.{Page}
use Rattle.reporting.specs.declared.Stepped.{Stepped}
use Rattle.reporting.specs.Report.{block_line, last_line}

abbrev pub blank : Page
blank = record { lines = 0; calls = 0; cells = 0; raw = 0 }

-- a page with one block's line more
abbrev pub with : Page → Block → Page
with p b =
    record { lines = p.lines + 1; calls = p.calls + b.calls; cells = p.cells + b.cells; raw = p.raw + b.raw }

-- the next block of a text that is not empty: after the 9,999th it is one too many
unfoldable pub next_block : Page → List ℕ → Block
next_block p s = cond (eqb p.lines 9999) (refused_block 19 0) (block_of s)

-- what a step takes (0: the reading has ended), the page after it, and what it prints
unfoldable pub taken_of : Page → List ℕ → ℕ
taken_of p s = cond (eqb (length s) 0) 0 (next_block p s).taken

unfoldable pub page_after : Page → List ℕ → Page
page_after p s = cond (eqb (length s) 0) p (with p (next_block p s))

unfoldable pub printed_of : Page → List ℕ → List ℕ
printed_of p s =
    cond (eqb (length s) 0) [] (block_line (p.lines + 1) (next_block p s))
    ++ cond (eqb (taken_of p s) 0) (last_line (page_after p s)) []

pub record Steps (s : List ℕ) (p : Page) (before after : List ℕ) (r : Stepped) : Type 0 where
  pub taken : r.taken ≡ taken_of p s
  pub page : r.page ≡ page_after p s
  pub count : r.count ≡ length (printed_of p s)
  pub printed : after ≡ written before 0 (printed_of p s)

-- a page of up to 10,000 lines, and what its totals come to at most: 8 digits are enough for all of them
pub record Fits (p : Page) : Type 0 where
  pub lines : p.lines ≤ 10000
  pub calls : p.calls ≤ 4234 * p.lines
  pub cells : p.cells ≤ 4096 * p.lines
  pub raw : p.raw ≤ 2618 * p.lines
