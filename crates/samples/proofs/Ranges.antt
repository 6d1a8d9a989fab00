-- What the tests of lambda, the costs and the samples say: bounds by whole numbers, and the level of a sample within one.
use mathlib.Core.Path.{◌≡◌}
use mathlib.Core.Bool.{true}
use mathlib.Core.List.{List, [], ◌∷◌, map}
use Prim.Native.Nat.{ℕ, zero, suc, ◌+◌, ◌-◌, ◌*◌, ◌/◌, ◌^◌, ◌≤◌, ◌<◌}
use native.Mathlib.Nat.{le_trans, sub-le, mul-pos, zero-lt-suc, le_of_suc-le-suc, div-lt_iff_lt-mul}
use native.Mathlib.Omega.{arith}
use lib.Dec.{eqb, lit≤}
use lib.Pow.{pow_mono}
use lib.ListN.{length, get_or, get_or-map}
use lib.Ieee.{Float, nan, fin, binary32, le, of_bits, inf}
use lib.Ieee.Positive.{num, den, den_pos}
use borrow.Author.Tests.{eqb-true}
use Rattle.lists.proofs.Choice.{and_l, and_r}
use Rattle.ieee.specs.Numbers.{nat}
use Rattle.ieee.specs.Bounds.{Under, Within}
use Rattle.ieee.proofs.Numbers.{nat_val}
use Rattle.ieee.proofs.Bounds.{within_if, within_mono}
use Rattle.samples.specs.Samples.{in_range, all_in_range, lambda_ok, costs_ok, samples_ok, level_of}

pub range_within : (top : ℕ) (x : Float) → top ≤ 2 ^ 24 → in_range top x ≡ true → Within x top
range_within top x h e =
    let low = le (of_bits binary32 0) x in
    let high = le x (nat binary32 top) in
    within_if binary32 x (nat binary32 top) top (and_l low high e) (and_r low high e) (nat_val binary32 top h)

all_within : (top : ℕ) (xs : List Float) → top ≤ 2 ^ 24 → all_in_range top xs ≡ true → (i : ℕ) → i < length xs
    → Within (get_or xs i nan) top
unfolding all_in_range
all_within top [] h e i l = absurd (omega arith)
all_within top (x ∷ xs) h e zero l = range_within top x h (and_l (in_range top x) (all_in_range top xs) e)
all_within top (x ∷ xs) h e (suc i) l = all_within top xs h (and_r (in_range top x) (all_in_range top xs) e) i (omega arith)

pub lambda_within : (x : Float) → lambda_ok x ≡ true → Within x (2 ^ 20)
lambda_within x e = range_within (2 ^ 20) x (lit≤ tt) e

pub costs_count : (costs : List Float) → costs_ok costs ≡ true → length costs ≡ 301
costs_count costs e = eqb-true (length costs) 301 (and_l (eqb (length costs) 301) (all_in_range 32 costs) e)

pub costs_within : (costs : List Float) → costs_ok costs ≡ true → (i : ℕ) → i < 301 → Within (get_or costs i nan) 32
costs_within costs e i l =
    all_within 32 costs (lit≤ tt) (and_r (eqb (length costs) 301) (all_in_range 32 costs) e) i
    (omega (arith, costs_count costs e))

-- (2 n + d) / 2 d, where n ≤ A * d
pub rounded_le : (n d A : ℕ) → 0 < d → n ≤ A * d → (2 * n + d) / (2 * d) ≤ A
rounded_le n d A D h = le_of_suc-le-suc ((div-lt_iff_lt-mul (mul-pos (zero-lt-suc 1) D)).1 (omega arith))

pub level_within : (x : Float) (A : ℕ) → Under x A → level_of x ≤ A
level_within nan A h = elim h [ ]
level_within (inf _) A h = elim h [ ]
level_within (fin s m e) A h = rounded_le (num (fin s m e)) (den (fin s m e)) A (den_pos (fin s m e)) h

-- a sample is at most the top level of its depth, and so is its level
module _ (bd : ℕ) (samples : List Float) (deep : bd ≤ 12) (e : samples_ok bd samples ≡ true)
    (i : ℕ) (l : i < length samples) where
  pub sample_within : Within (get_or samples i nan) (2 ^ bd - 1)
  sample_within =
      all_within (2 ^ bd - 1) samples (le_trans (sub-le (2 ^ bd) 1) (le_trans (pow_mono deep) (lit≤ tt))) e i l

  pub sample_within_4095 : Within (get_or samples i nan) 4095
  sample_within_4095 =
      let h : 2 ^ bd ≤ 4096 = pow_mono deep in within_mono (get_or samples i nan) (2 ^ bd - 1) 4095 (omega arith) sample_within

  pub level_in : get_or (map level_of samples) i 0 ≤ 2 ^ bd - 1
  level_in = rw (get_or-map level_of samples i nan) (level_within (get_or samples i nan) (2 ^ bd - 1) sample_within.0)
