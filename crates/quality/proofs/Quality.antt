-- L9: for k of 1 to 8 groups the error is within 1 / 4096 of the least exact sum of all cuts, and the chosen cut's exact
-- sum within 1 / 2048 of it.
use mathlib.Core.Path.{◌≡◌, refl}
use mathlib.Core.Bool.{Bool, true, false, cond}
use mathlib.Core.Logic.{inl, inr}
use mathlib.Core.List.{List}
use Prim.Native.Nat.{ℕ, ◌+◌, ◌*◌, ◌^◌, ◌≤◌, ◌<◌}
use native.Mathlib.Nat.{le_refl, le_of_lt, mul-le-mul_right, mul-le-mul_left, mul-lt-mul_of_pos_right}
use native.Mathlib.Omega.{arith}
use lib.Dec.{lit≤}
use lib.Pow.{pow_pos}
use lib.Ieee.{Float, fin, binary64, up, down, lt, of_bits, nan, inf}
use lib.Ieee.Fits.{down_pos}
use lib.Ieee.Positive.{num, den, den_pos as own-den-pos}
use Rattle.ieee.proofs.Signed.{Is, lt_true, lt_false}
use Rattle.groups.specs.declared.Histogram.{Histogram}
use Rattle.groups.specs.Histogram.{IsHistogram}
use Rattle.groups.specs.Groups.{IsCut, prefix_of, floored, cost_to, cut_of, error_of}
use Rattle.groups.proofs.Sums.{sum_mono}
use Rattle.groups.proofs.Cuts.{chosen_cut}
use Rattle.quality.specs.Quality.{Fraction, Close, value_of, Plain, starts_of, exact_sum, Least, Sound, Quality, AllGroupsAreGood}
use Rattle.quality.proofs.AllCuts.{cuts_are_all}
use Rattle.quality.proofs.Units.{AtMost, AtLeast, most_room, least_room, least_less, through, own_least, own_most}
use Rattle.quality.proofs.Sums.{not_cut_off, den_pos}
use Rattle.quality.proofs.Group.{Around}
use Rattle.quality.proofs.Rows.{Cheapest, entry}
use Rattle.quality.proofs.Exists.{least_of_holds}

-- ---- from units to the float's own fraction
own : (x : Float) (p n : ℕ) → Is binary64 x p n → n < p → Plain x × (num x * 2 ^ 1074 + n * den x ≡ p * den x)
own nan p n h l = elim h [ ]
own (inf _) p n h l = elim h [ ]
own (fin false m e) p n h l = ((refl, refl), h)
own (fin true m e) p n h l = absurd (never (m * up e * 2 ^ 1074) h (mul-lt-mul_of_pos_right l (down_pos e)))
  where
    never : (x : ℕ) → x + p * down e ≡ n * down e → n * down e < p * down e → ⊥
    never x e h = omega arith

zero_is : Is binary64 (of_bits binary64 0) 0 0
unfolding of_bits
zero_is = refl

zero_value : Plain (of_bits binary64 0) × (num (of_bits binary64 0) ≡ 0)
unfolding of_bits
zero_value = ((refl, refl), refl)

-- 0 against a, where a value that is not above 0 is near it
zero_most : {L : ℕ} {a : Fraction} → AtMost L 0 0 a 0
zero_most = record { le = omega arith }

zero_least : {L p n e : ℕ} {a : Fraction} → p ≤ n → AtLeast L p n a e → AtLeast L 0 0 a e
zero_least {a = a} l h = record { le = omega (arith, mul-le-mul_right a.den l, h.le) }

floor_near : (x : Float) (a : Fraction) → Around x a (2 ^ 1062) → Plain (floored x) × Close 4096 (value_of (floored x)) a
floor_near x a r = go (lt (of_bits binary64 0) x) refl
  where
    go : (u : Bool) → lt (of_bits binary64 0) x ≡ u
        → Plain (cond u x (of_bits binary64 0)) × Close 4096 (value_of (cond u x (of_bits binary64 0))) a
    go true y =
        let l : r.N < r.P = omega (arith, lt_true binary64 (of_bits binary64 0) x 0 0 r.P r.N zero_is r.is y) in
        let o = own x r.P r.N r.is l in
        let least = own_least r.P r.N (value_of x) o.1 in
        let most = own_most r.P r.N (value_of x) o.1 in
        let below = through 4096 (2 ^ 1062) (pow_pos 1062) (lit≤ tt) least r.most in
        let above = through 4096 (2 ^ 1062) (pow_pos 1062) (lit≤ tt) r.least most in
        (o.0, (below, above))
    go false y =
        let l = lt_false binary64 (of_bits binary64 0) x 0 0 r.P r.N zero_is r.is y in
        let none : AtMost (2 ^ 1074) 0 0 (value_of (of_bits binary64 0)) 0 = zero_most in
        let above = through 4096 (2 ^ 1062) (pow_pos 1062) (lit≤ tt) (zero_least (omega (arith, l)) r.least) none in
        (zero_value.0, (rw zero_value.1 (omega arith), above))

module _ (v : List ℕ) (h : Histogram) (is : IsHistogram v h) (k : ℕ) (one : 1 ≤ k) (few : k ≤ 8) (has : k ≤ h.n) where
  abbrev sum : List ℕ → Fraction
  sum c = exact_sum h h.n c

  eight : k * 2 ^ 1059 ≤ 2 ^ 1062
  eight = mul-le-mul_right (2 ^ 1059) few

  cut : IsCut k h.n (cut_of h k)
  cut = chosen_cut (prefix_of h.w) (prefix_of h.s) (prefix_of h.q) k h.n has (λ e. absurd (omega arith))

  g : Cheapest v h is (IsCut k h.n) h.n (k * 2 ^ 1059) (cost_to h k h.n) (cut_of h k)
  g = elim (entry v h is k h.n few has (le_refl h.n)) [
    | inl x ↦ x
    | inr none ↦ absurd (none.none (cut_of h k) cut)
  ]

  -- the cost itself, which may be a little below zero
  pub cost_near : (m : List ℕ) → Least h k m → Around (cost_to h k h.n) (sum m) (2 ^ 1062)
  cost_near m a = record {
    P = g.P;
    N = g.N;
    is = g.value;
    most = most_room eight (g.most m a.cut);
    least =
        least_less (den_pos v h is k h.n (cut_of h k) cut (le_refl h.n)) (least_room eight g.least)
        (a.least (cut_of h k) cut);
  }

  cut_near : (m : List ℕ) → Least h k m → Close 2048 (sum (cut_of h k)) (sum m)
  cut_near m a =
      let most = most_room eight (g.most m a.cut) in
      let above = through 2048 (2 ^ 1063) (pow_pos 1063) (lit≤ tt) (least_room eight g.least) most in
      (above, omega (arith, mul-le-mul_left 2048 (a.least (cut_of h k) cut)))

  sound : Sound h k
  sound = record {
    rising = sum_mono;
    whole = (λ i j a b. not_cut_off v h is i j (le_of_lt a));
    proper = (λ c x. den_pos v h is k h.n c x (le_refl h.n));
    some = least_of_holds v h is k (cut_of h k) cut;
    all = (λ m a xs n gs row. a.least (starts_of gs) (rw n at ((cuts_are_all k xs).cuts gs row).0));
  }

  near : (m : List ℕ) → Least h k m → Plain (error_of h k) × Close 4096 (value_of (error_of h k)) (sum m)
  near m a = floor_near (cost_to h k h.n) (sum m) (cost_near m a)

  good : Quality h k (error_of h k) (cut_of h k)
  good = record {
    sound = sound;
    plain = (near sound.some.0 sound.some.1).0;
    divides = own-den-pos (error_of h k);
    error = (λ m a. (near m a).1);
    cut = cut;
    choice = cut_near;
  }

pub all_groups_are_good : AllGroupsAreGood
all_groups_are_good v h is k one few has = good v h is k one few has
