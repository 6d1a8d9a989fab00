-- With lambda within 2^20 and the head within 2^9 every cost of a walk is finite, so an infinite bound is never reached. Assumes nothing.
use Prim.Native.Nat.{ℕ, zero, suc, ◌+◌, ◌*◌, ◌^◌, ◌≤◌, ◌<◌, zero-le}
use mathlib.Core.Bool.{Bool, true, false, cond, true≢false}
use mathlib.Core.Path.{◌≡◌, refl, sym, subst, ◌∙◌}
use mathlib.Core.Logic.{◌⊎◌, inl, inr}
use mathlib.Core.List.{List}
use native.Mathlib.Omega.{arith}
use native.Mathlib.Numerals.{add-one}
use native.Mathlib.Nat.{mul-le-mul_right}
use lib.Dec.{lit≤, lit<}
use lib.ListN.{get_or}
use lib.Ieee.{Float, inf, nan, binary32, add, mul, of_bits}
use Rattle.ieee.specs.Bounds.{Under, Within}
use Rattle.ieee.proofs.Bounds.{add_under, mul_under, under_mono, under_bound}
use Rattle.near.specs.Near.{Below}
use Rattle.cells.specs.declared.Cost.{Cost}
use Rattle.cells.specs.Cell.{plus}
use Rattle.scan.specs.declared.Scan.{Scan}
use Rattle.map_search.specs.declared.Choice.{Choice}
use Rattle.std.specs.Prelude.{Option, Some, None}
use Rattle.map_search.specs.Lines.{line_of, Walk, Ended, next, reached, rest_of, map_of}
use Rattle.scan.specs.Scan.{Sound}
use Rattle.map_search.proofs.Sums.{rep_sum, more_within}
use Rattle.map_search.proofs.LineChoice.{line_plain}
use Rattle.map_search.proofs.PutLine.{put_below}
use Rattle.map_search.proofs.CellBounds.{InRange}
use Rattle.map_search.proofs.LineBounds.{Bounded, line_bounded}

-- the cost of so many lines
abbrev Paid : ℕ → Cost → Type 0
Paid lines c = Within c.dist (lines * 2 ^ 32) × Within c.rate (lines * 2 ^ 12)

paid_more : (l : ℕ) (cost : Cost) (c : Choice) → l < 64 → Paid l cost → Bounded c → Paid (suc l) (plus cost c.cost)
paid_more l cost c few a b =
    (more_within _ _ l 32 (omega arith) (lit≤ tt) a.0 b.0, more_within _ _ l 12 (omega arith) (lit≤ tt) a.1 b.1)

-- error + lambda × (head + bits)
walk_total : (error lambda head bits : Float) → Under error (2 ^ 38) → Under lambda (2 ^ 20) → Under head (2 ^ 9) → Under bits (2 ^ 18)
    → Under (add binary32 error (mul binary32 lambda (add binary32 head bits))) (1025 * 2 ^ 29)
walk_total error lambda head bits a b c d =
    let all = add binary32 head bits in
    let u : Under all (513 * 2 ^ 9) = add_under binary32 head bits (2 ^ 9) (2 ^ 18) c d (rep_sum 513 9 (lit< tt) (lit≤ tt)) in
    let v : Under (mul binary32 lambda all) (513 * 2 ^ 29) =
    mul_under binary32 lambda all (2 ^ 20) (513 * 2 ^ 9) b u (rep_sum 513 29 (lit< tt) (lit≤ tt)) in
    add_under binary32 error (mul binary32 lambda all) (2 ^ 38) (513 * 2 ^ 29) a v (rep_sum 1025 29 (lit< tt) (lit≤ tt))

-- a map of so many lines was found, and its error and bits are finite
pub record IsFound (lines : ℕ) (r : Option Cost) : Type 0 where
  pub cost : Cost
  pub is : r ≡ Some cost
  pub error_in : Within cost.dist (lines * 2 ^ 32)
  pub bits_in : Within cost.rate (lines * 2 ^ 12)

-- found, or beaten by a bound that is not infinite
abbrev Ends : ℕ → Float → Option Cost → Type 0
Ends lines bound r = ((r ≡ None) × (bound ≡ inf false → ⊥)) ⊎ IsFound lines r

module _ (samples costs colours : List Float) (n : ℕ) (lambda : Float) (s : Scan) (known : InRange samples costs colours n s)
    (head : Float) (weight : Under lambda (2 ^ 20)) (head_in : Under head (2 ^ 9)) (bound : Float) where
  abbrev next_walk : Walk → ℕ → Walk
  next_walk t l = next samples costs colours n lambda s t l

  abbrev rest : ℕ → ℕ → Walk → Ended
  rest k l t = rest_of samples costs colours n lambda s head bound k l t

  abbrev stops : Walk → Bool
  stops t = reached samples costs colours n lambda s head bound t

  not_infinite : (k : ℕ) (t : Walk) → k ≤ 64 → Paid k t.cost → stops t ≡ true → bound ≡ inf false → ⊥
  not_infinite k t few paid stop infinite =
      let error : Under t.cost.dist (2 ^ 38) = under_mono t.cost.dist (k * 2 ^ 32) (2 ^ 38) (mul-le-mul_right (2 ^ 32) few) paid.0.0 in
      let bits : Under t.cost.rate (2 ^ 18) = under_mono t.cost.rate (k * 2 ^ 12) (2 ^ 18) (mul-le-mul_right (2 ^ 12) few) paid.1.0 in
      let below = under_bound _ (1025 * 2 ^ 29) (walk_total t.cost.dist lambda head t.cost.rate error weight head_in bits) in
      true≢false (sym stop ∙ rw infinite below)

  rest_ends : (k l : ℕ) (t : Walk) → l + k ≡ s.lines → t.ctx ≤ 3 → Below t.map n → Paid l t.cost
      → Ends s.lines bound (rest k l t).result
  unfolding rest_of
  rest_ends zero l t e context below paid =
      let all : l ≡ s.lines = omega arith in
      let whole : Paid s.lines t.cost = subst (λ (k : ℕ). Paid k t.cost) all paid in
      inr (record { cost = t.cost; is = refl; error_in = whole.0; bits_in = whole.1 })
  rest_ends (suc k) l t e context below paid =
      let on : l < s.lines = omega arith in
      let few : l < 64 = omega (arith, known.sound.few) in
      let some : 0 < n = omega (arith, known.two) in
      let line = line_of samples costs colours n lambda s t.map l t.ctx in
      let plain = line_plain samples costs colours n lambda s t.map l t.ctx some in
      let still-below = put_below samples costs colours n lambda s t.map l t.ctx line some known.most plain.1 below in
      let more : Paid (suc l) (next_walk t l).cost =
      paid_more l t.cost line few paid (line_bounded samples costs colours n lambda s known t.map l t.ctx below on context) in
      let deeper = rest_ends k (l + 1) (next_walk t l) (omega arith) (omega (arith, plain.0)) still-below (rw add-one more) in
      by_test (stops (next_walk t l)) (not_infinite (suc l) (next_walk t l) (omega arith) more) deeper
    where
      by_test : (r : Bool) → (r ≡ true → bound ≡ inf false → ⊥) → Ends s.lines bound (rest k (l + 1) (next_walk t l)).result
          → Ends s.lines bound
          (cond r (record { map = (next_walk t l).map; flags = (next_walk t l).flags; result = None }) (rest k (l + 1) (next_walk t l))).result
      by_test true finite deeper = inl (refl, finite refl)
      by_test false finite deeper = deeper

  map_ends : (map flags : List ℕ) → Below map n → Ends s.lines bound (map_of samples costs colours n lambda s head bound map flags).result
  unfolding of_bits
  map_ends map flags below = rest_ends s.lines 0 _ (omega arith) (omega arith) below ((zero-le, inl refl), (zero-le, inl refl))

module _ (samples costs colours : List Float) (n : ℕ) (lambda : Float) (s : Scan) (N : ℕ) (sound : Sound s N) (two : 2 ≤ n) (most : n ≤ 8)
    (sample : (i : ℕ) → i < N → Within (get_or samples i nan) 4095) (colour : (i : ℕ) → i < n → Within (get_or colours i nan) 4095)
    (cost : (i : ℕ) → i < 301 → Within (get_or costs i nan) 32) (head : Float) (weight : Under lambda (2 ^ 20)) (head_in : Under head (2 ^ 9)) where
  known : InRange samples costs colours n s
  known = record { cells = N; sound = sound; two = two; most = most; sample = sample; colour = colour; cost = cost }

  -- whatever the bound: a found map's error and bits are finite
  pub found_in_bounds : (bound : Float) (map flags : List ℕ) (paid : Cost) → Below map n
      → (map_of samples costs colours n lambda s head bound map flags).result ≡ Some paid
      → Within paid.dist (s.lines * 2 ^ 32) × Within paid.rate (s.lines * 2 ^ 12)
  found_in_bounds bound map flags paid below found =
      by_end (map_of samples costs colours n lambda s head bound map flags).result found
      (map_ends samples costs colours n lambda s known head weight head_in bound map flags below)
    where
      by_end : (r : Option Cost) → r ≡ Some paid → Ends s.lines bound r
          → Within paid.dist (s.lines * 2 ^ 32) × Within paid.rate (s.lines * 2 ^ 12)
      by_end r f (inl beaten) = let x : ◌≡◌ {A = ℕ} 0 1 = cc in absurd (omega arith)
      by_end r f (inr end) =
          let same : end.cost ≡ paid = cc in (
            subst (λ (c : Cost). Within c.dist (s.lines * 2 ^ 32)) same end.error_in,
            subst (λ (c : Cost). Within c.rate (s.lines * 2 ^ 12)) same end.bits_in,
          )

  -- an infinite bound is never reached
  pub always_found : (map flags : List ℕ) → Below map n
      → IsFound s.lines (map_of samples costs colours n lambda s head (inf false) map flags).result
  always_found map flags below = by_end (map_ends samples costs colours n lambda s known head weight head_in (inf false) map flags below)
    where
      by_end : {r : Option Cost} → Ends s.lines (inf false) r → IsFound s.lines r
      by_end (inl beaten) = absurd (beaten.1 refl)
      by_end (inr end) = end
