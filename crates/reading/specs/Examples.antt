-- The smallest lists of each number, for a 1 by 1 block of depth 8, and where the readings of L2 differ. One claim.
use Rattle.std.specs.Prelude.{ℕ, ◌≡◌, refl, false, List, [], ◌∷◌, map}
use Rattle.lists.specs.Counted.{up_to, all_below, all_in, elem, above, ascending}
use Rattle.lists.specs.Same.{same_list}
use Rattle.counts.specs.Counts.{least_bits, ceil_log2}
use Rattle.context.specs.Map.{cell, line_cell}
use Rattle.context.specs.Order.{choose, by_three, around, others, order_of, place, rank_of}
use Rattle.scan.specs.Scan.{fill}
use Rattle.literals.specs.Words.{word, bypass}
use Rattle.literals.specs.Literals.{levels_ok, largest_step, step_bits, cut_bits, step_words, more_words, literal_words}
use Rattle.accept.specs.Accepted.{sides_ok, depth_ok, colors_ok, orient_ok, cache_ok, counts_ok, line_ok, map_ok, refusal}
use Rattle.emit.specs.Colors.{remove, cache_words, untaken, color_words}
use Rattle.emit.specs.Map.{ranked_word, cell_word, row_context, sent_cells, line_words, orient_words, map_words}
use Rattle.listing.specs.Listing.{call_list}
use Rattle.reader.specs.Reader.{is_due, due, read_up_to}
use Rattle.read_colors.specs.Colors.{insert, read_bit, read_cache, read_steps, read_more, read_literals, read_sized, read_colors}
use Rattle.read_map.specs.Map.{read_ranked, read_index, read_cell, read_cells, read_line, read_lines}
use Rattle.reading.specs.Reading.{read_orient, read_palette, relists, Outcome, back, refused, judge, limits, reading}

-- orientation, flag and cell of the 1 by 1 block
abbrev rest : List ℕ
rest = bypass 1 0 ∷ word 4 3 0 ∷ word 2 2 1 ∷ []

-- size, the cache bit, the literal 10
abbrev sound : List ℕ → List ℕ
sound ws = word 3 0 0 ∷ bypass 1 1 ∷ bypass 8 10 ∷ ws

-- cache, list
abbrev tried : List ((List ℕ × List ℕ) × Outcome)
tried =
    (((20 ∷ []), sound rest), back (record { colors = 10 ∷ 20 ∷ []; transposed = false; flags = 0 ∷ []; map = 1 ∷ [] }))
    -- 20: the empty list; a list that ends before the orientation bit
    ∷ (((20 ∷ []), []), refused 20)
    ∷ (((20 ∷ []), sound []), refused 20)
    -- 21: a size of nine; the wrong kind; a first-line flag of 2; an index of 2
    ∷ (((20 ∷ []), word 3 0 7 ∷ []), refused 21)
    ∷ (((20 ∷ []), bypass 0 0 ∷ []), refused 21)
    ∷ (((20 ∷ []), word 6 0 0 ∷ []), refused 21)
    ∷ (((20 ∷ []), sound (bypass 1 0 ∷ word 4 3 2 ∷ [])), refused 21)
    ∷ (((20 ∷ []), sound (bypass 1 0 ∷ word 4 3 0 ∷ word 2 2 2 ∷ [])), refused 21)
    -- 21: a step past the top level, from 254 by 2; after the top level any step, where the list does not end
    ∷ (([], word 3 0 0 ∷ bypass 8 254 ∷ bypass 2 0 ∷ bypass 5 1 ∷ []), refused 21)
    ∷ (([], word 3 0 0 ∷ bypass 8 255 ∷ bypass 2 0 ∷ []), refused 20)
    ∷ (([], word 3 0 0 ∷ bypass 8 255 ∷ bypass 2 0 ∷ bypass 5 0 ∷ []), refused 21)
    -- 22: a word left over; before 23, which it would be without that word
    ∷ (((20 ∷ 20 ∷ []), word 3 0 0 ∷ bypass 1 1 ∷ bypass 1 1 ∷ bypass 1 0 ∷ word 4 3 0 ∷ word 2 2 1 ∷ 0 ∷ []), refused 22)
    ∷ (((20 ∷ []), sound (bypass 1 0 ∷ word 4 3 0 ∷ word 2 2 1 ∷ 0 ∷ [])), refused 22)
    -- 23: a bit 0 for a colour; 0 first and 1 at its repeat; a second 1 for it, which counts as a colour taken; a literal that
    -- the cache took; an entry above the top level; more bits than the steps need
    ∷ (((20 ∷ []), word 3 0 0 ∷ bypass 1 0 ∷ bypass 8 10 ∷ bypass 2 0 ∷ bypass 5 9 ∷ rest), refused 23)
    ∷ (((20 ∷ 20 ∷ []), word 3 0 0 ∷ bypass 1 0 ∷ bypass 1 1 ∷ bypass 8 10 ∷ rest), refused 23)
    ∷ (((20 ∷ 20 ∷ []), word 3 0 0 ∷ bypass 1 1 ∷ bypass 1 1 ∷ rest), refused 23)
    ∷ (((20 ∷ []), word 3 0 0 ∷ bypass 1 1 ∷ bypass 8 20 ∷ rest), refused 23)
    ∷ (((300 ∷ []), word 3 0 0 ∷ bypass 1 1 ∷ bypass 8 20 ∷ rest), refused 23)
    ∷ (([], word 3 0 0 ∷ bypass 8 10 ∷ bypass 2 1 ∷ bypass 6 9 ∷ rest), refused 23)
    ∷ []

pub tried_hold : map (λ r. reading 1 1 8 r.0.0 1 1 r.0.1) tried ≡ map (λ r. r.1) tried
unfolding
    reading limits judge relists same_list read_palette read_lines read_line read_cells fill read_cell read_index read_ranked
    read_orient read_colors read_sized read_literals read_more read_steps read_cache read_bit insert read_up_to due is_due
    call_list map_words orient_words line_words sent_cells row_context cell_word ranked_word color_words untaken cache_words remove
    refusal map_ok line_ok counts_ok cache_ok orient_ok colors_ok depth_ok sides_ok
    literal_words more_words step_words cut_bits step_bits largest_step levels_ok word
    rank_of place order_of others around by_three choose line_cell cell ceil_log2 least_bits
    up_to all_below all_in elem above ascending
tried_hold = refl
