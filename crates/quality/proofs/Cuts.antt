-- Cuts by where their last group starts. Assumes nothing.
use mathlib.Core.Path.{◌≡◌}
use mathlib.Core.Logic.{◌⊎◌, inl, inr}
use mathlib.Core.List.{List, [], ◌∷◌}
use Prim.Native.Nat.{ℕ, zero, suc, ◌≤◌, zero-le}
use native.Mathlib.Nat.{le_trans, eq-or-lt_of_le, le_of_suc-le-suc}
use native.Mathlib.Omega.{arith}
use Rattle.groups.specs.Groups.{IsCut}

-- a cut into k groups has at least k levels
pub cut_size : (k j : ℕ) (c : List ℕ) → IsCut k j c → k ≤ j
cut_size zero j c x = zero-le
cut_size (suc k) j [] x = elim x [ ]
cut_size (suc k) j (i ∷ c) x = omega (arith, x.0, cut_size k i c x.1)

-- cuts into k + 1 groups, the last of which starts at i
abbrev pub From : ℕ → ℕ → List ℕ → Type 0
From k i [] = ⊥
From k i (a ∷ c) = (a ≡ i) × IsCut k a c

-- the cuts U are the cuts S and R together
pub record Joined (S R U : List ℕ → Type 0) : Type 0 where
  pub split : (c : List ℕ) → U c → S c ⊎ R c
  pub left : (c : List ℕ) → S c → U c
  pub right : (c : List ℕ) → R c → U c

-- what holds of the cuts S and of the cuts R holds of U
pub of_both : {S R U : List ℕ → Type 0} → Joined S R U → (P : List ℕ → Type 0) → ((c : List ℕ) → S c → P c)
    → ((c : List ℕ) → R c → P c) → (c : List ℕ) → U c → P c
of_both joined P f g c u = elim (joined.split c u) [ inl s ↦ f c s | inr r ↦ g c r ]

-- the last group starts before t, or at t
pub last_start : (k t : ℕ) → Joined (IsCut (suc k) t) (From k t) (IsCut (suc k) (suc t))
last_start k t = record { split = split; left = left; right = right }
  where
    split : (c : List ℕ) → IsCut (suc k) (suc t) c → IsCut (suc k) t c ⊎ From k t c
    split [] x = elim x [ ]
    split (i ∷ c) x = elim (eq-or-lt_of_le (le_of_suc-le-suc x.0)) [ inl e ↦ inr (e, x.1) | inr l ↦ inl (l, x.1) ]

    left : (c : List ℕ) → IsCut (suc k) t c → IsCut (suc k) (suc t) c
    left [] x = elim x [ ]
    left (i ∷ c) x = (le_trans x.0 (omega arith), x.1)

    right : (c : List ℕ) → From k t c → IsCut (suc k) (suc t) c
    right [] x = elim x [ ]
    right (i ∷ c) x = (omega (arith, x.0), x.1)
