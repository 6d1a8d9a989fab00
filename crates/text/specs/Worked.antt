-- Document 01, 'Listing program': texts that are refused, as one claim on the definitions. Assumes nothing.
use Rattle.std.specs.Prelude.{ℕ, zero, suc, ◌+◌, ◌≡◌, refl, List, [], ◌∷◌, ◌++◌, map}
use Prim.Native.String.{String, len, char_at}
use Prim.Native.Char.{code}
use Rattle.lists.specs.Counted.{up_to, all_below, all_in, elem, above, ascending}
use Rattle.counts.specs.Counts.{least_bits, ceil_log2}
use Rattle.context.specs.Map.{cell, line_cell}
use Rattle.context.specs.Order.{choose, by_three, around, others, order_of, place, rank_of}
use Rattle.literals.specs.Words.{word}
use Rattle.literals.specs.Literals.{levels_ok, largest_step, step_bits, cut_bits, step_words, more_words, literal_words}
use Rattle.accept.specs.Accepted.{sides_ok, depth_ok, colors_ok, orient_ok, cache_ok, counts_ok, line_ok, map_ok, refusal}
use Rattle.emit.specs.Colors.{remove, cache_words, untaken, color_words}
use Rattle.emit.specs.Map.{ranked_word, cell_word, row_context, sent_cells, line_words, orient_words, map_words}
use Rattle.listing.specs.Listing.{call_list}
use Rattle.fields.specs.Fields.{is_digit, column, columns, field_at, is_line, line_numbers, are_rows, row_numbers}
use Rattle.printing.specs.Printing.{digits, field, line, call_line, call_lines, listed, refused}
use Rattle.text.specs.Text.{header_at, header_fault, places_of, is_body, text_number, cache_at, palette_at}
use Rattle.text.specs.Answer.{shown, answer}

-- the bytes of a line, and of lines that each end in a newline
unfoldable pub bytes : String → ℕ → ℕ → List ℕ
bytes s i zero = []
bytes s i (suc k) = code (char_at s i) ∷ bytes s (i + 1) k

unfoldable pub lines : List String → List ℕ
lines [] = []
lines (l ∷ ls) = bytes l 0 (len l) ++ (10 ∷ lines ls)

-- the answer to header, colours, cache, flags, one row of zeros and another row, and what follows them
pub given : String → String → String → String → String → List String → List ℕ
given header colors cache flags row rest =
    answer (lines (header ∷ colors ∷ cache ∷ flags ∷ "       0       0       0       0" ∷ row ∷ rest))

abbrev plain : String
plain = "       4       2       2       8       0       0"

abbrev cached : String
cached = "       4       2       2       8       0       1"

abbrev row : String
row = "       0       0       1       1"

-- as the definitions give it, and as the document has it
pub worked : List (List ℕ × List ℕ)
worked =
    -- only a header; a fault of the header is told before more is read
    (answer (lines (plain ∷ [])), lines ("       0      17" ∷ []))
    ∷ (answer (lines ("       0       2       2       8       0       0" ∷ [])), lines ("       0       1" ∷ []))
    -- transposed 2 ahead of a side of 0
    ∷ (answer (lines ("       0       2       2       8       2       0" ∷ [])), lines ("       0      17" ∷ []))
    -- n of 9 ahead of transposed with a side of 64, and that ahead of a cache of 65
    ∷ (answer (lines ("      64       2       9       8       1      65" ∷ [])), lines ("       0      11" ∷ []))
    ∷ (answer (lines ("      64       2       2       8       1      65" ∷ [])), lines ("       0      12" ∷ []))
    -- a colour of 65,552; a flag or an index of 256; a colour fault ahead of them
    ∷ (given plain "      16   65552" "" "       1       0" row [], lines ("       0      11" ∷ []))
    ∷ (given plain "      16     235" "" "     256       0" row [], lines ("       0      15" ∷ []))
    ∷ (given plain "      16     235" "" "       1       0" "       0       0       1     256" [], lines ("       0      15" ∷ []))
    ∷ (given plain "     235      16" "" "       1       0" "       0       0       1     256" [], lines ("       0      11" ∷ []))
    -- ahead of a colour fault: a cache entry of 65,536, text after the last row, a leading zero
    ∷ (given cached "     235      16" "   65536" "       1       0" row [], lines ("       0      17" ∷ []))
    ∷ (given plain "     235      16" "" "       1       0" row ("" ∷ []), lines ("       0      17" ∷ []))
    ∷ (given plain "     235     016" "" "       1       0" row [], lines ("       0      17" ∷ []))
    ∷ []

pub worked_hold : map (λ r. r.0) worked ≡ map (λ r. r.1) worked
unfolding worked given lines bytes answer shown text_number header_at header_fault places_of is_body cache_at palette_at is_digit column columns
    field_at is_line line_numbers are_rows row_numbers digits field line call_line call_lines listed refused sides_ok depth_ok colors_ok orient_ok
    cache_ok counts_ok line_ok map_ok refusal levels_ok all_in all_below above ascending line_cell word call_list color_words cache_words untaken
    remove literal_words more_words step_words step_bits cut_bits largest_step least_bits ceil_log2 map_words orient_words up_to line_words
    row_context sent_cells ranked_word cell_word cell around by_three choose rank_of order_of place others elem
worked_hold = refl
