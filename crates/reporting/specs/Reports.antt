-- Document 02, L1: small reports, as one claim on the definitions. Assumes nothing.
use Prim.Native.String.{String}
use Rattle.std.specs.Prelude.{◌≡◌, refl, List, [], ◌∷◌, ◌++◌, map, ℕ}
use Rattle.std.proofs.Common.{lit<}
use Rattle.lists.specs.Counted.{up_to, all_below, all_in, elem, above, ascending}
use Rattle.counts.specs.Counts.{least_bits, ceil_log2, uniform_bits}
use Rattle.context.specs.Map.{cell, line_cell}
use Rattle.context.specs.Order.{choose, by_three, around, others, order_of, place, rank_of}
use Rattle.literals.specs.Words.{word, raw_bits, raw_width_of}
use Rattle.literals.specs.Literals.{levels_ok, largest_step, step_bits, cut_bits, step_words, more_words, literal_words}
use Rattle.accept.specs.Accepted.{sides_ok, depth_ok, colors_ok, orient_ok, cache_ok, counts_ok, line_ok, map_ok, refusal}
use Rattle.emit.specs.Colors.{remove, cache_words, untaken, color_words}
use Rattle.emit.specs.Map.{ranked_word, cell_word, row_context, sent_cells, line_words, orient_words, map_words}
use Rattle.listing.specs.Listing.{call_list}
use Rattle.fields.specs.Fields.{is_digit, column, columns, field_at, is_line, line_numbers, are_rows, row_numbers}
use Rattle.printing.specs.Printing.{digits, field, line}
use Rattle.text.specs.Text.{header_at, header_fault, places_of, is_body, text_number, cache_at, palette_at}
use Rattle.text.specs.Worked.{bytes, lines}
use Rattle.blocks.specs.Block.{listed_block, block_of}
use Rattle.reporting.specs.Fraction.{gcd_by, fraction}
use Rattle.reporting.specs.Follow.{Whole}
use Rattle.reporting.specs.Report.{blocks_of, block_line, block_lines, total, page_of, last_line, report}

-- document 01's palette, with other colours and another last index
pub block : String → String → List String
block colors row =
    "       4       2       2       8       0       0"
    ∷ colors
    ∷ ""
    ∷ "       1       0"
    ∷ "       0       0       0       0"
    ∷ row
    ∷ []

abbrev good : List String
good = block "      16     235" "       0       0       1       1"

-- one cell of three colours
pub single : String → List String
single index = "       1       1       3       8       0       0" ∷ "      10      11      12" ∷ "" ∷ "       1" ∷ index ∷ []

abbrev nothing : String
nothing = "       0       0       0       0       0       1"

-- as the definitions give it, and as the document has it
pub reports : List (List ℕ × List ℕ)
reports =
    -- no palette
    (report [], lines (nothing ∷ []))
    -- document 01's palette: 12 calls, 8 cells, raw width 20, and 20/8 is 5/2
    ∷ (report (lines good), lines ("       1      12       8      20" ∷ "       0      12       8      20       5       2" ∷ []))
    -- document 02, L4: one cell of three colours; index 0 takes 1 bit and index 2 takes 2
    ∷ (
      report (lines (single "       0" ++ single "       2")),
      lines (
          "       1       8       1      22"
          ∷ "       2       8       1      23"
          ∷ "       0      16       2      45      45       2"
          ∷ []
          ),
    )
    -- text after its last row begins the next palette
    ∷ (
      report (lines (good ++ good)),
      lines (
          "       1      12       8      20"
          ∷ "       2      12       8      20"
          ∷ "       0      24      16      40       5       2"
          ∷ []
          ),
    )
    -- refused by 11 for its colours and by 15 for an index of 2, between two: they count nowhere, and the reading goes on
    ∷ (
      report (
          lines (
          good ++ block "     235      16" "       0       0       1       1"
          ++ block "      16     235" "       0       0       1       2" ++ good
          )
          ),
      lines (
          "       1      12       8      20"
          ∷ "       2       0       0       0      11"
          ∷ "       3       0       0       0      15"
          ∷ "       4      12       8      20"
          ∷ "       0      24      16      40       5       2"
          ∷ []
          ),
    )
    -- an empty line after a last row is text that cannot be read, and so is a palette cut off; what follows is not looked at
    ∷ (
      report (lines (good ++ ("" ∷ good))),
      lines (
          "       1      12       8      20"
          ∷ "       2       0       0       0      17"
          ∷ "       0      12       8      20       5       2"
          ∷ []
          ),
    )
    ∷ (
      report (lines ("       4       2       2       8       0       0" ∷ [])),
      lines ("       1       0       0       0      17" ∷ nothing ∷ []),
    )
    -- a refused header ends the reading, with its own number
    ∷ (
      report (lines ("      65       2       2       8       0       0" ∷ good)),
      lines ("       1       0       0       0       1" ∷ nothing ∷ []),
    )
    ∷ (
      report (lines ("       4       2       9       8       0       0" ∷ good)),
      lines ("       1       0       0       0      11" ∷ nothing ∷ []),
    )
    -- after the last palette that is allowed: nothing, and a byte
    ∷ (block_lines 10000 (blocks_of 0 []), [])
    ∷ (block_lines 10000 (blocks_of 0 (10 ∷ [])), lines ("   10000       0       0       0      19" ∷ []))
    ∷ []

pub reports_hold : map (λ r. r.0) reports ≡ map (λ r. r.1) reports
unfolding reports block single lines bytes report blocks_of block_line block_lines total page_of last_line fraction gcd_by listed_block block_of
    text_number header_at header_fault places_of is_body cache_at palette_at is_digit column columns field_at is_line
    line_numbers are_rows row_numbers digits field line sides_ok depth_ok colors_ok orient_ok cache_ok counts_ok line_ok map_ok refusal
    levels_ok all_in all_below above ascending line_cell word raw_bits raw_width_of call_list color_words cache_words untaken remove
    literal_words more_words step_words step_bits cut_bits largest_step least_bits ceil_log2 uniform_bits map_words orient_words up_to line_words
    row_context sent_cells ranked_word cell_word cell around by_three choose rank_of order_of place others elem
reports_hold = refl

-- document 01's palette is the text of one palette, with nothing behind its last row
pub good_whole : Whole (lines good)
unfolding block lines bytes listed_block block_of text_number header_at header_fault places_of is_body cache_at palette_at
    is_digit column columns field_at is_line line_numbers are_rows row_numbers sides_ok depth_ok colors_ok orient_ok cache_ok counts_ok
    line_ok map_ok refusal levels_ok all_in all_below above ascending line_cell word raw_bits raw_width_of call_list color_words cache_words
    untaken remove literal_words more_words step_words step_bits cut_bits largest_step least_bits ceil_log2 uniform_bits map_words orient_words up_to
    line_words row_context sent_cells ranked_word cell_word cell around by_three choose rank_of order_of place others elem
good_whole = record { some = lit< tt; taken = refl }
