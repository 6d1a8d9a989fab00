-- What `half_even` makes of the whole part t of n / 2 ^ (s - 1), which is twice n / 2 ^ s.
use mathlib.Core.Path.{◌≡◌, sym, ap, ◌∙◌}
use Prim.Native.Nat.{ℕ, suc, ◌+◌, ◌-◌, ◌*◌, ◌/◌, ◌%◌, ◌^◌, ◌≤◌, ◌<◌}
use native.Mathlib.Nat.{lt_of_le_of_lt, mod-eq_of_lt, div-mul-le_self, pow-suc}
use native.Mathlib.Omega.{arith}
use lib.Pow.{pow_pos}
use lib.Ieee.Nearest.{closest, div_same}
use Rattle.ieee.proofs.HalfEven.{closest_even, closest_tie, closest_up}

power : (s : ℕ) → 1 ≤ s → 2 ^ s ≡ 2 ^ (s - 1) * 2
power s h = let e : s ≡ suc (s - 1) = omega arith in ap (λ z. 2 ^ z) e ∙ pow-suc 2 (s - 1)

module _ (n s : ℕ) (h : n < 2 ^ 53) (S : 1 ≤ s) where
  twice : n / 2 ^ (s - 1) ≡ 2 * n / 2 ^ s
  twice =
      div_same n (2 ^ (s - 1)) (2 * n) (2 ^ s) (pow_pos (s - 1)) (pow_pos s)
      (rw (power s S) (move n (2 ^ (s - 1))))
    where
      move : (n p : ℕ) → n * (p * 2) ≡ 2 * n * p
      move n p = omega arith

  shifted : n / 2 ^ (s - 1) * 2 ^ (s - 1) % 2 ^ 64 ≡ n / 2 ^ (s - 1) * 2 ^ (s - 1)
  shifted = mod-eq_of_lt (lt_of_le_of_lt (div-mul-le_self n (2 ^ (s - 1))) (omega arith))

  double : n / 2 ^ (s - 1) * 2 ^ s ≡ n / 2 ^ (s - 1) * 2 ^ (s - 1) * 2
  double = rw (power s S) (move (n / 2 ^ (s - 1)) (2 ^ (s - 1)))
    where
      move : (t p : ℕ) → t * (p * 2) ≡ t * p * 2
      move t p = omega arith

  pub even : n / 2 ^ (s - 1) % 2 ≡ 0 → closest n (2 ^ s) ≡ n / 2 ^ (s - 1) / 2
  even z = closest_even n (2 ^ s) (n / 2 ^ (s - 1)) (pow_pos s) twice z

  pub tie : n / 2 ^ (s - 1) % 2 ≡ 1 → n / 2 ^ (s - 1) * 2 ^ (s - 1) % 2 ^ 64 ≡ n
      → closest n (2 ^ s) ≡ n / 2 ^ (s - 1) / 2 + n / 2 ^ (s - 1) / 2 % 2
  tie z e =
      closest_tie n (2 ^ s) (n / 2 ^ (s - 1)) (pow_pos s) twice z (double ∙ ap (λ z. z * 2) (sym shifted ∙ e) ∙ omega arith)

  pub above : n / 2 ^ (s - 1) % 2 ≡ 1 → (n / 2 ^ (s - 1) * 2 ^ (s - 1) % 2 ^ 64 ≡ n → ⊥)
      → closest n (2 ^ s) ≡ n / 2 ^ (s - 1) / 2 + 1
  above z e =
      closest_up n (2 ^ s) (n / 2 ^ (s - 1)) (pow_pos s) twice z
      (λ i. e (shifted ∙ half (n / 2 ^ (s - 1) * 2 ^ (s - 1)) (sym double ∙ i)))
    where
      half : (p : ℕ) → p * 2 ≡ 2 * n → p ≡ n
      half p e = omega arith
