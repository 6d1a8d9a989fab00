-- Document 01's starred block, and small ones, as the definition gives them. Assumes nothing.
use Rattle.std.specs.Prelude.{ℕ, ◌*◌, Bool, true, false, ◌≡◌, refl, List, [], ◌∷◌, ◌++◌, map, replicate, Float, Some, None}
use Rattle.std.specs.Int.Count.{count_trailing_zeros}
use Rattle.std.specs.Float.{inf, binary32}
use Rattle.std.specs.Float.Ieee.{of_bits, of_fields, odd, round, units, size, span, climb, add, sub, neg, sum, mul, lt, le, eq, of_int}
use Rattle.counts.specs.Counts.{uniform_bits, ceil_log2, least_bits}
use Rattle.lists.specs.Counted.{elem}
use Rattle.context.specs.Map.{cell}
use Rattle.context.specs.Order.{choose, by_three, around, others, order_of, place, rank_of}
use Rattle.cells.specs.Cell.{cheapest, first_cheapest, squares_of, rates_of, ranked, chosen}
use Rattle.scan.specs.Scan.{scan_of, fill}
use Rattle.map_search.specs.Lines.{Ended, dist_line, cell_at, cells_of, constants, candidates, line_of, put_line, rest_of, map_of}
use Rattle.cells.specs.declared.Cost.{Cost}

-- f32 numbers
abbrev zero32 : Float
zero32 = of_bits binary32 0

abbrev one : Float
one = of_bits binary32 0x3f80_0000

abbrev ten : Float
ten = of_bits binary32 0x4120_0000

abbrev sixteen : Float
sixteen = of_bits binary32 0x4180_0000

abbrev twenty : Float
twenty = of_bits binary32 0x41a0_0000

-- what each costs: no error, one bit
abbrev paid : Cost
paid = record { dist = zero32; rate = one }

-- the search with the colours 10 and 20, where lambda and all costs are 0
abbrev searched : List Float → ℕ → ℕ → Bool → Float → Float → Ended
searched samples w h transposed head bound =
    let scan = scan_of w h transposed in
    map_of samples (replicate 301 zero32) (ten ∷ twenty ∷ replicate 6 zero32) 2 zero32 scan head bound (replicate (w * h) 0) (replicate scan.lines 0)

-- as the definition gives it, and as it should be
pub examples : List (Ended × Ended)
examples =
    let rows = ten ∷ twenty ∷ ten ∷ twenty ∷ [] in
    -- 16 by 1, eight 10s then eight 20s: flag 0, error 0, bits 1 (with head 16 the estimate is 51)
    (
      searched (replicate 8 ten ++ replicate 8 twenty) 16 1 false sixteen (inf false),
      record { map = replicate 8 0 ++ replicate 8 1; flags = 0 ∷ []; result = Some paid },
    )
    -- 2 by 2, rows 10, 20: ties go to the earlier candidate, so the second row is a copy, and transposed each column is constant
    ∷ (searched rows 2 2 false zero32 (inf false), record { map = 0 ∷ 1 ∷ 0 ∷ 1 ∷ []; flags = 0 ∷ 2 ∷ []; result = Some paid })
    ∷ (searched rows 2 2 true zero32 (inf false), record { map = 0 ∷ 1 ∷ 0 ∷ 1 ∷ []; flags = 1 ∷ 1 ∷ []; result = Some paid })
    ∷ []

pub examples_hold : map (λ r. r.0) examples ≡ map (λ r. r.1) examples
unfolding examples count_trailing_zeros of_bits of_fields odd round units size span climb add sub neg sum mul lt le eq of_int
    uniform_bits ceil_log2 least_bits elem cell choose by_three around others order_of place rank_of cheapest first_cheapest squares_of rates_of ranked chosen
    fill dist_line cell_at cells_of constants candidates line_of put_line rest_of
examples_hold = refl

-- a bound of 0 is reached with the first line
pub beaten : (searched (ten ∷ twenty ∷ ten ∷ twenty ∷ []) 2 2 true zero32 zero32).result ≡ None
unfolding count_trailing_zeros of_bits of_fields odd round units size span climb add sub neg sum mul lt le eq of_int
    uniform_bits ceil_log2 least_bits elem cell choose by_three around others order_of place rank_of cheapest first_cheapest squares_of rates_of ranked chosen
    fill dist_line cell_at cells_of constants candidates line_of put_line rest_of
beaten = refl
