-- A filled line: its length, what it leaves alone and what it overwrites. Assumes nothing.
use Prim.Native.Nat.{ℕ, zero, suc, ◌≤◌, ◌<◌}
use mathlib.Core.Path.{◌≡◌, refl, ap, ◌∙◌}
use mathlib.Core.Logic.{inl, inr}
use mathlib.Core.List.{List, [], ◌∷◌}
use native.Mathlib.Omega.{arith}
use native.Mathlib.Nat.{eq-or-lt_of_le, le_of_suc-le-suc}
use lib.ListN.{set, length, length-set}
use lib.Seq.{get_or-set_other, set-set, set_comm}
use Rattle.near.specs.Near.{Below}
use Rattle.scan.specs.Scan.{place_at, cell_in, fill, Sound}
use Rattle.scan.specs.declared.Scan.{Scan}

-- ---- indices below n
pub below_set : (m : List ℕ) (n p v : ℕ) → Below m n → v < n → Below (set m p v) n
below_set [] n p v b h i = b i
below_set (x ∷ xs) n zero v b h zero = h
below_set (x ∷ xs) n zero v b h (suc i) = b (suc i)
below_set (x ∷ xs) n (suc p) v b h zero = b 0
below_set (x ∷ xs) n (suc p) v b h (suc i) = below_set xs n p v (λ j. b (suc j)) h i

pub below_8 : (m : List ℕ) (n : ℕ) → Below m n → n ≤ 8 → Below m 8
below_8 m n b h i = omega (arith, b i)

-- ---- any scan
module _ (s : Scan) (l : ℕ) where
  pub length_fill : (g : ℕ → ℕ) (m : List ℕ) (k : ℕ) → length (fill s l g m k) ≡ length m
  unfolding fill
  length_fill g m zero = refl
  length_fill g m (suc k) = length-set (fill s l g m k) (place_at s l k) (g k) ∙ length_fill g m k

  pub fill_below : (n : ℕ) (g : ℕ → ℕ) (m : List ℕ) (k : ℕ) → ((a : ℕ) → g a < n) → Below m n → Below (fill s l g m k) n
  unfolding fill
  fill_below n g m zero under below = below
  fill_below n g m (suc k) under below = below_set (fill s l g m k) n (place_at s l k) (g k) (fill_below n g m k under below) (under k)

  pub fill_same : (g f : ℕ → ℕ) (m : List ℕ) (k : ℕ) → ((a : ℕ) → a < k → g a ≡ f a) → fill s l g m k ≡ fill s l f m k
  unfolding fill
  fill_same g f m zero e = refl
  fill_same g f m (suc k) e = rw (fill_same g f m k (λ a h. e a (omega arith)), e k (omega arith)) refl

-- ---- a sound scan, whose cells stand apart
module _ (s : Scan) (N : ℕ) (sound : Sound s N) (l : ℕ) (on : l < s.lines) where
  pub cells_apart : (a b : ℕ) → a < s.len → b < s.len → (a ≡ b → ⊥) → place_at s l a ≡ place_at s l b → ⊥
  cells_apart a b p q differ e = differ (sound.apart l a l b on on p q e).1

  pub lines_apart : (j a b : ℕ) → j < s.lines → a < s.len → b < s.len → (j ≡ l → ⊥) → place_at s j a ≡ place_at s l b → ⊥
  lines_apart j a b j-on p q differ e = differ (sound.apart j a l b j-on on p q e).0

  -- the other lines are left alone
  pub fill_other : (g : ℕ → ℕ) (m : List ℕ) (k j b : ℕ) → j < s.lines → (j ≡ l → ⊥) → b < s.len → k ≤ s.len
      → cell_in (fill s l g m k) s j b ≡ cell_in m s j b
  unfolding fill
  fill_other g m zero j b j-on differ p q = refl
  fill_other g m (suc k) j b j-on differ p q =
      get_or-set_other (fill s l g m k) (place_at s l k) (place_at s j b) (g k) 0 (lines_apart j b k j-on p (omega arith) differ)
      ∙ fill_other g m k j b j-on differ p (omega arith)

  -- a cell that is set before the line is filled: from there on it stays, and then it is overwritten
  fill_past : (g : ℕ → ℕ) (m : List ℕ) (a v k : ℕ) → a < s.len → k ≤ a
      → fill s l g (set m (place_at s l a) v) k ≡ set (fill s l g m k) (place_at s l a) v
  unfolding fill
  fill_past g m a v zero p q = refl
  fill_past g m a v (suc k) p q =
      ap (λ (f : List ℕ). set f (place_at s l k) (g k)) (fill_past g m a v k p (omega arith))
      ∙ set_comm (fill s l g m k) (place_at s l a) (place_at s l k) v (g k) (cells_apart a k p (omega arith) (λ e. omega arith))

  pub fill_set : (g : ℕ → ℕ) (m : List ℕ) (a v k : ℕ) → a < k → k ≤ s.len → fill s l g (set m (place_at s l a) v) k ≡ fill s l g m k
  unfolding fill
  fill_set g m a v zero p q = absurd (omega arith)
  fill_set g m a v (suc k) p q = elim (eq-or-lt_of_le (le_of_suc-le-suc p)) [
    | inl e ↦
        rw (← e)
        (ap (λ (f : List ℕ). set f (place_at s l a) (g a)) (fill_past g m a v a (omega arith) (omega arith))
        ∙ set-set (fill s l g m a) (place_at s l a) v (g a))
    | inr h ↦ ap (λ (f : List ℕ). set f (place_at s l k) (g k)) (fill_set g m a v k h (omega arith))
  ]
