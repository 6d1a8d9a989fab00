-- Buffers of zeros.
use mathlib.Core.Path.{◌≡◌, refl, ap, ◌∙◌}
use mathlib.Core.List.{List, ◌∷◌}
use Prim.Native.Nat.{ℕ, zero, suc, ◌≤◌, ◌<◌}
use native.Mathlib.Omega.{arith}
use lib.ListN.{length, get_or, take, replicate, length-replicate}

pub zeros_below : (cells n i : ℕ) → 0 < n → get_or (replicate cells 0) i 0 < n
zeros_below zero n i p = p
zeros_below (suc cells) n zero p = p
zeros_below (suc cells) n (suc i) p = zeros_below cells n i p

pub zero_at : (n i : ℕ) → ◌≡◌ {A = ℕ} 0 (get_or (replicate n 0) i 0)
zero_at zero i = refl
zero_at (suc n) zero = refl
zero_at (suc n) (suc i) = zero_at n i

pub length_zeros : (l : List ℕ) (n : ℕ) → l ≡ replicate n 0 → length l ≡ n
length_zeros l n e = ap (λ (k : List ℕ). length k) e ∙ length-replicate {A = ℕ} n 0

pub take_zeros : (k n : ℕ) → k ≤ n → take {A = ℕ} k (replicate n 0) ≡ replicate k 0
take_zeros zero n h = refl
take_zeros (suc k) zero h = absurd (omega arith)
take_zeros (suc k) (suc n) h = ap (λ (xs : List ℕ). 0 ∷ xs) (take_zeros k n (omega arith))
