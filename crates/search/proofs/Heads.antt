-- Of a block whose tests have passed: the head and the lb of each size are finite, and the sizes go in the order of their lb.
use mathlib.Core.Path.{◌≡◌, refl, ◌∙◌}
use mathlib.Core.Bool.{false, cond}
use mathlib.Core.List.{List, [], ◌∷◌}
use Prim.Native.Nat.{ℕ, suc, ◌+◌, ◌-◌, ◌*◌, ◌^◌, ◌≤◌, ◌<◌}
use native.Mathlib.Omega.{arith}
use lib.Dec.{lit≤, lit<}
use lib.ListN.{length, get_or, take, drop, length-drop}
use lib.Seq.{length-take-le, get_or-take, get_or-drop}
use lib.Ieee.{Float, nan, inf, binary32, add, sub, mul, lt}
use lib.Ieee.Back.{round_whole}
use Rattle.lists.specs.Counted.{bit}
use Rattle.lists.proofs.Choice.{either_way}
use Rattle.lists.proofs.Counted.{bit_most}
use Rattle.ieee.specs.Numbers.{nat}
use Rattle.ieee.specs.Bounds.{Under}
use Rattle.ieee.proofs.Compare.{under_finite}
use Rattle.ieee.proofs.Bounds.{nat_within, rep_scaled, add_under, sub_under, mul_under, under_lt, under_mono}
use Rattle.literals.specs.Literals.{literal_bits}
use Rattle.literals.proofs.Widths.{literal_bits_le}
use Rattle.samples.specs.Narrow.{narrow_of}
use Rattle.samples.proofs.Ranges.{lambda_within, costs_count, costs_within}
use Rattle.groups.specs.declared.Histogram.{Histogram}
use Rattle.groups.specs.Groups.{centers_of, error_of}
use Rattle.sizes.specs.declared.Block.{Block}
use Rattle.counts.specs.Counts.{orient_sent}
use Rattle.sizes.specs.Order.{sizes_to, in_order, Sorts}
use Rattle.sizes.specs.Sizes.{head_of, least_of, least_row, fewest_lines, size_of}
use Rattle.sizes.proofs.Levels.{SizeTo}
use Rattle.sizes.proofs.Sorted.{in_order_inserted}
use Rattle.sizes.proofs.Parts.{fewest_most}
use Rattle.search.specs.Search.{histogram_in}
use Rattle.search.proofs.Passed.{Ready}
use Rattle.search.proofs.Errors.{error_narrow}
use Rattle.search.proofs.Colors.{levels_in, is_histogram, centers_count, levels_ok_holds}

-- ---- a head and an lb, by bounds on their parts
head_sum : (on off size literal orientation : Float) → Under on 32 → Under off 32 → Under size 32
    → Under literal 98 → Under orientation 1
    → Under (add binary32 (add binary32 (add binary32 (sub binary32 on off) size) literal) orientation) (2 ^ 9)
head_sum on off size literal orientation a b c d e =
    let mode = sub binary32 on off in
    let u = sub_under binary32 on off 32 32 a b (round_whole binary32 false 64 (lit≤ tt)) in
    let v = add_under binary32 mode size 64 32 u c (round_whole binary32 false 96 (lit≤ tt)) in
    let two = add binary32 mode size in
    let w = add_under binary32 two literal 96 98 v d (round_whole binary32 false 194 (lit≤ tt)) in
    let three = add binary32 two literal in
    under_mono (add binary32 three orientation) 195 (2 ^ 9) (lit≤ tt)
    (add_under binary32 three orientation 194 1 w e (round_whole binary32 false 195 (lit≤ tt)))

lb_sum : (error lambda head lines row : Float) → Under error (2 ^ 40) → Under lambda (2 ^ 20) → Under head (2 ^ 9)
    → Under lines 64 → Under row 32
    → Under (add binary32 error (mul binary32 lambda (add binary32 head (mul binary32 lines row)))) (2053 * 2 ^ 29)
lb_sum error lambda head lines row a b c d e =
    let rows = mul binary32 lines row in
    let bits = add binary32 head rows in
    let u = mul_under binary32 lines row 64 32 d e (round_whole binary32 false 2048 (lit≤ tt)) in
    let v = add_under binary32 head rows (2 ^ 9) 2048 c u (round_whole binary32 false 2560 (lit≤ tt)) in
    let w = mul_under binary32 lambda bits (2 ^ 20) 2560 b v (rep_scaled binary32 5 29 (lit< tt) (lit< tt)) in
    add_under binary32 error (mul binary32 lambda bits) (2 ^ 40) (5 * 2 ^ 29) a w
    (rep_scaled binary32 2053 29 (lit< tt) (lit< tt))

-- ---- the least of a list whose values are all finite
least_under : (A : ℕ) (x : Float) (ys : List Float) → Under x A
    → ((i : ℕ) → i < length ys → Under (get_or ys i nan) A) → Under (least_of x ys) A
unfolding least_of
least_under A x [] u f = u
least_under A x (y ∷ ys) u f =
    least_under A (cond (lt y x) y x) ys (either_way (λ z. Under z A) (lt y x) y x (f 0 (omega arith)) u)
    (λ i l. f (suc i) (omega arith))

-- from +infinity on, which the first value replaces
least_some : (A : ℕ) (ys : List Float) → 0 < length ys → ((i : ℕ) → i < length ys → Under (get_or ys i nan) A)
    → Under (least_of (inf false) ys) A
unfolding least_of
least_some A [] z f = absurd (omega arith)
least_some A (y ∷ ys) z f =
    let first : Under y A = f 0 (omega arith) in
    rw (under_lt y A first) (least_under A y ys first (λ i l. f (suc i) (omega arith)))

module _ {samples costs : List Float} {b : Block} {room lineRoom : ℕ} (ready : Ready samples costs b room lineRoom)
    {h : Histogram} (is : h ≡ histogram_in samples) (few : h.n ≤ 32) where
  cost_under : (i : ℕ) → i < 301 → Under (get_or costs i nan) 32
  cost_under i l = (costs_within costs ready.priced i l).0

  row_under : Under (least_row costs) 32
  row_under =
      let all = costs_count costs ready.priced in
      let some : length (take 21 costs) ≡ 21 = length-take-le 21 costs (omega arith) in
      let twelve : length (drop 9 (take 21 costs)) ≡ 12 = length-drop 9 (take 21 costs) ∙ rw some refl in
      least_some 32 (drop 9 (take 21 costs)) (omega arith) (λ i l.
      let o : 9 + i < 21 = omega arith in
      rw (get_or-drop 9 (take 21 costs) i nan, get_or-take 21 costs (9 + i) nan o) (cost_under (9 + i) (omega arith)))

  -- of a size that the block has
  module _ (k : ℕ) (has : SizeTo h.n k) where
    literal_most : literal_bits b.bd (centers_of h k) ≤ 98
    literal_most =
        let ok = levels_ok_holds ready is few k has in
        omega (arith, has.1, centers_count ready is few k has, literal_bits_le b.bd ready.deep_most (centers_of h k) ok)

    pub head_under : Under (head_of costs b (centers_of h k)) (2 ^ 9)
    unfolding head_of
    head_under =
        let size = 2 + (length (centers_of h k) - 2) in
        let literal = literal_bits b.bd (centers_of h k) in
        let orientation = bit (orient_sent b.width b.height) in
        head_sum (get_or costs 1 nan) (get_or costs 0 nan) (get_or costs size nan) (nat binary32 literal) (nat binary32 orientation)
        (cost_under 1 (lit< tt)) (cost_under 0 (lit< tt))
        (cost_under size (omega (arith, has.1, centers_count ready is few k has)))
        (nat_within binary32 literal 98 literal_most (lit≤ tt)).0
        (nat_within binary32 orientation 1 (bit_most (orient_sent b.width b.height)) (lit≤ tt)).0

    pub lb_under : Under (size_of costs b h k).lb (2053 * 2 ^ 29)
    lb_under =
        let lines = fewest_lines b.width b.height in
        let most = fewest_most b.width b.height ready.wide_most ready.high_most in
        let some : 0 < k = omega (arith, has.0) in
        lb_sum (narrow_of (error_of h k)) b.lambda (head_of costs b (centers_of h k)) (nat binary32 lines) (least_row costs)
        (error_narrow (levels_in samples) h (is_histogram ready is few) k some has.1 has.2)
        (lambda_within b.lambda ready.weight).0 head_under (nat_within binary32 lines 64 most (lit≤ tt)).0 row_under

  -- so the sizes go by ascending lb, ties by fewer colours, each once
  pub sizes_in_order : let lb : ℕ → Float = λ k. (size_of costs b h k).lb in
      Sorts lb (sizes_to h.n) (in_order lb (sizes_to h.n))
  sizes_in_order =
      in_order_inserted (λ k. (size_of costs b h k).lb) h.n
      (λ k has. under_finite (size_of costs b h k).lb (2053 * 2 ^ 29) (lb_under k has))
