-- Document 01, 'Worked blocks' and 'Listing program': those with a star, and document 02's widths (L4), as one claim on the
-- definitions. Assumes nothing.
use Rattle.std.specs.Prelude.{ℕ, ◌/◌, ◌%◌, ◌≡◌, refl, false, cond, eqb, List, [], ◌∷◌, ◌++◌, map, replicate, Float}
use Rattle.std.proofs.Common.{ap, ◌∙◌}
use Rattle.lists.specs.Counted.{bit, up_to, elem, all_below, all_in, above, ascending}
use Rattle.counts.specs.Counts.{least_bits, ceil_log2, uniform_bits}
use Rattle.context.specs.Map.{cell, line_cell}
use Rattle.context.specs.Order.{choose, by_three, around, others, order_of, place, rank_of}
use Rattle.literals.specs.Words.{word, bypass, raw_bits, raw_width_of}
use Rattle.literals.specs.Sent.{bypass_sent, uniform_sent, call_sent, bits_sent}
use Rattle.literals.specs.Literals.{largest_step, step_bits, cut_bits, step_words, more_words, literal_words, steps_width, literal_bits, levels_ok}
use Rattle.emit.specs.Colors.{remove, cache_words, untaken, color_words}
use Rattle.emit.specs.Map.{ranked_word, cell_word, row_context, sent_cells, line_words, orient_words, map_words}
use Rattle.accept.specs.Palette.{Palette}
use Rattle.listing.specs.Listing.{call_list}
use Rattle.std.specs.Int.Count.{count_trailing_zeros}
use Rattle.std.specs.Float.{binary32}
use Rattle.std.specs.Float.Ieee.{of_bits, of_fields, odd, round, units, size, span, climb, add, sub, neg, sum, mul, div, lt, le, eq, of_int}
use Rattle.std.specs.Float.Ieee.Positive.{num, den}
use Rattle.lists.specs.Written.{written}
use Rattle.ieee.specs.Numbers.{nat}
use Rattle.samples.specs.Samples.{all_in_range}
use Rattle.groups.specs.declared.Histogram.{Histogram}
use Rattle.groups.specs.Histogram.{occurs, histogram_of, sum_to}
use Rattle.groups.specs.Groups.{sums_from, first_of, cost_in, chosen as cuts, colors_of}
use Rattle.cells.specs.Cell.{cheapest, first_cheapest, squares_of, rates_of, ranked, chosen}
use Rattle.scan.specs.Scan.{fill}
use Rattle.map_search.specs.Lines.{dist_line, cell_at, cells_of, constants, candidates, line_of, put_line, rest_of}
use Rattle.sizes.specs.declared.Block.{Block}
use Rattle.sizes.specs.Sizes.{head_of, least_of}
use Rattle.sizes.specs.Order.{those, ordered}
use Rattle.accept.specs.declared.Palette.{Palette as Answer}
use Rattle.accept.specs.Answer.{refused_by}
use Rattle.search.specs.Estimated.{estimate_in}
use Rattle.search.specs.Search.{tried, tried_both, visited, searched, fault_of, levels_fault, search_number, palette_by, answer_of, histogram_in, found_in}
use Rattle.accept.specs.Accepted.{sides_ok, depth_ok, colors_ok, orient_ok, cache_ok, counts_ok, line_ok, map_ok, refusal}
use Rattle.fields.specs.Fields.{is_digit, column, columns, field_at, is_line, line_numbers, are_rows, row_numbers}
use Rattle.printing.specs.Printing.{digits, field, line, call_line, call_lines, listed, refused}
use Rattle.text.specs.Text.{header_at, header_fault, places_of, is_body, text_number, cache_at, palette_at}
use Rattle.text.specs.Answer.{shown, answer}
use Rattle.text.specs.Worked.{bytes, lines}

-- 16 by 1, eight 10s then eight 20s, bd 8, lambda 0, all costs 0
abbrev edge : List Float
edge = replicate 8 (nat binary32 10) ++ replicate 8 (nat binary32 20)

abbrev edge_block : Block
edge_block = record { width = 16; height = 1; bd = 8; lambda = nat binary32 0 }

-- the whole part of a float and what is left of it
abbrev whole : Float → List ℕ
whole x = num x / den x ∷ num x % den x ∷ []

-- the estimate, head and map bits
abbrev figures : Answer → List ℕ
figures p = whole (estimate_in p) ++ (whole p.head ++ whole p.map_bits)

-- what search answers for it: number, n, colours, orientation, its figures; the flags and the map
pub found : List ℕ
found =
    let p = answer_of edge (replicate 301 (nat binary32 0)) edge_block 16 16 in
    let s = found_in edge (replicate 301 (nat binary32 0)) edge_block in
    p.number ∷ p.n ∷ (p.colors ++ (bit p.transposed ∷ (figures p ++ (s.flags ++ s.map))))

-- colours 10 and 20, plain, estimate 51 (head 16, map bits 1), flag 0
abbrev edge_answer : List ℕ
edge_answer = 0 ∷ 2 ∷ 10 ∷ 20 ∷ (replicate 6 0 ++ (0 ∷ 51 ∷ 0 ∷ 16 ∷ 0 ∷ 1 ∷ 0 ∷ (0 ∷ (replicate 8 0 ++ replicate 8 1))))

-- the listing program's example, 4 by 2
pub block : Palette
block =
    record { colors = 16 ∷ 235 ∷ []; transposed = false; flags = 1 ∷ 0 ∷ []; map = 0 ∷ 0 ∷ 0 ∷ 0 ∷ 0 ∷ 0 ∷ 1 ∷ 1 ∷ [] }

-- as the definitions give it, and as the document has it
pub starred : List (List ℕ × List ℕ)
starred =
    (literal_words 8 (16 ∷ 80 ∷ 235 ∷ []), bypass 8 16 ∷ bypass 2 3 ∷ bypass 8 63 ∷ bypass 8 154 ∷ [])
    ∷ (literal_words 8 (250 ∷ 253 ∷ 255 ∷ []), bypass 8 250 ∷ bypass 2 0 ∷ bypass 5 2 ∷ bypass 1 1 ∷ [])
    ∷ (literal_words 8 (253 ∷ 254 ∷ 255 ∷ []), bypass 8 253 ∷ bypass 2 0 ∷ bypass 5 0 ∷ bypass 0 0 ∷ [])
    ∷ (literal_bits 8 (254 ∷ 255 ∷ []) ∷ literal_bits 8 (0 ∷ 255 ∷ []) ∷ [], 15 ∷ 18 ∷ [])
    ∷ (color_words 8 (20 ∷ 5 ∷ 30 ∷ 10 ∷ 40 ∷ []) (10 ∷ 20 ∷ 30 ∷ []), word 3 0 1 ∷ bypass 1 1 ∷ bypass 1 0 ∷ bypass 1 1 ∷ bypass 1 1 ∷ [])
    ∷ (color_words 8 (20 ∷ 20 ∷ []) (10 ∷ 20 ∷ []), word 3 0 0 ∷ bypass 1 1 ∷ bypass 1 0 ∷ bypass 8 10 ∷ [])
    ∷ (map (λ v. uniform_bits v 5) (0 ∷ 1 ∷ 2 ∷ 3 ∷ 4 ∷ []), 2 ∷ 2 ∷ 2 ∷ 3 ∷ 3 ∷ [])
    ∷ (map (λ v. uniform_bits v 3) (0 ∷ 1 ∷ 2 ∷ []), 1 ∷ 2 ∷ 2 ∷ [])
    ∷ (found, edge_answer)
    ∷ (
      call_list 4 2 8 [] block,
      word 3 0 0 ∷ bypass 8 16 ∷ bypass 2 3 ∷ bypass 8 218 ∷ bypass 1 0 ∷ word 4 3 1 ∷ word 2 2 0 ∷ word 4 1 0
          ∷ word 5 0 0 ∷ word 5 4 0 ∷ word 5 4 1 ∷ word 5 2 1 ∷ [],
    )
    -- document 02, L4: the worked value 20 stays, as n = 2 takes 1 bit either way; with n = 3 index 0 takes 1 bit and index 2
    -- takes 2; and the bits that are sent
    ∷ (raw_width_of (call_list 4 2 8 [] block) ∷ [], 20 ∷ [])
    ∷ (map (λ v. raw_bits (word 2 2 v)) (0 ∷ 1 ∷ []), 1 ∷ 1 ∷ [])
    ∷ (map (λ v. raw_bits (word 2 3 v)) (0 ∷ 1 ∷ 2 ∷ []), 1 ∷ 2 ∷ 2 ∷ [])
    ∷ (map (λ v. raw_bits (word 2 5 v)) (0 ∷ 1 ∷ 2 ∷ 3 ∷ 4 ∷ []), 2 ∷ 2 ∷ 2 ∷ 3 ∷ 3 ∷ [])
    ∷ (bits_sent (map (λ v. word 2 3 v) (0 ∷ 1 ∷ 2 ∷ [])), 0 ∷ 1 ∷ 0 ∷ 1 ∷ 1 ∷ [])
    ∷ (
      bits_sent (map (λ v. word 2 5 v) (0 ∷ 1 ∷ 2 ∷ 3 ∷ 4 ∷ [])),
      0 ∷ 0 ∷ 0 ∷ 1 ∷ 1 ∷ 0 ∷ 1 ∷ 1 ∷ 0 ∷ 1 ∷ 1 ∷ 1 ∷ [],
    )
    ∷ (bits_sent (bypass 8 218 ∷ word 4 3 1 ∷ bypass 2 3 ∷ []), 1 ∷ 1 ∷ 0 ∷ 1 ∷ 1 ∷ 0 ∷ 1 ∷ 0 ∷ 1 ∷ 1 ∷ [])
    ∷ (
      answer (lines (
          "       4       2       2       8       0       0"
          ∷ "      16     235"
          ∷ ""
          ∷ "       1       0"
          ∷ "       0       0       0       0"
          ∷ "       0       0       1       1"
          ∷ [])),
      lines (
          "      12"
          ∷ "       3       0       0"
          ∷ "       1       8      16"
          ∷ "       1       2       3"
          ∷ "       1       8     218"
          ∷ "       1       1       0"
          ∷ "       4       3       1"
          ∷ "       2       2       0"
          ∷ "       4       1       0"
          ∷ "       5       0       0"
          ∷ "       5       4       0"
          ∷ "       5       4       1"
          ∷ "       5       2       1"
          ∷ []),
    )
    ∷ []

-- the levels of the 16 by 1 block
levels : histogram_in edge
    ≡ record {
      n = 2;
      w = 8 ∷ 8 ∷ replicate 30 0;
      s = 80 ∷ 160 ∷ replicate 30 0;
      q = 800 ∷ 3200 ∷ replicate 30 0;
    }
unfolding count_trailing_zeros of_bits of_fields odd round units size span climb of_int occurs histogram_of up_to written
levels = refl

-- the same answer, told from the levels
abbrev told : Histogram → List ℕ
told h =
    let costs = replicate 301 (nat binary32 0) in
    let fault = fault_of edge costs edge_block 16 16 in
    let number = cond (eqb fault 0) (levels_fault h.n) fault in
    let s = searched edge costs edge_block h in
    let p = cond (eqb number 0) (palette_by s.best) (refused_by number) in
    p.number ∷ p.n ∷ (p.colors ++ (bit p.transposed ∷ (figures p ++ (s.flags ++ s.map))))

computed : told (record { n = 2; w = 8 ∷ 8 ∷ replicate 30 0; s = 80 ∷ 160 ∷ replicate 30 0; q = 800 ∷ 3200 ∷ replicate 30 0 })
    ≡ edge_answer
unfolding count_trailing_zeros of_bits of_fields odd round units size span climb add sub neg sum mul div lt le eq of_int written
    all_in_range sum_to sums_from first_of cost_in cuts colors_of cheapest first_cheapest squares_of rates_of ranked chosen fill
    dist_line cell_at cells_of constants candidates line_of put_line rest_of head_of least_of those ordered tried tried_both visited
    searched fault_of uniform_bits least_bits ceil_log2 literal_bits steps_width step_bits cut_bits largest_step cell around by_three
    choose rank_of order_of place others elem sides_ok depth_ok
computed = refl

edge_found : found ≡ edge_answer
unfolding found search_number
edge_found = ap told levels ∙ computed

pub starred_hold : map (λ r. r.0) starred ≡ map (λ r. r.1) starred
unfolding starred block word raw_bits raw_width_of bypass_sent uniform_sent call_sent bits_sent uniform_bits least_bits ceil_log2
    call_list color_words cache_words untaken remove literal_words more_words step_words step_bits cut_bits largest_step literal_bits
    steps_width map_words orient_words up_to line_words row_context sent_cells ranked_word cell_word cell around by_three choose rank_of
    order_of place others elem lines bytes answer shown text_number header_at header_fault places_of is_body cache_at palette_at
    is_digit column columns field_at is_line line_numbers are_rows row_numbers digits field line call_line call_lines listed refused
    sides_ok depth_ok colors_ok orient_ok cache_ok counts_ok line_ok map_ok refusal levels_ok all_in all_below above ascending line_cell
starred_hold = rw edge_found refl
