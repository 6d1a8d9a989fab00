-- The levels that occur, and their places in 32. Assumes nothing.
use mathlib.Core.Path.{◌≡◌, refl, sym, ap, ◌∙◌}
use mathlib.Core.Bool.{Bool, true, false, cond}
use mathlib.Core.List.{List, [], ◌∷◌, ◌++◌, append-nil, map, map-append}
use Prim.Native.Nat.{ℕ, zero, suc, ◌+◌, ◌*◌, ◌≤◌, ◌<◌}
use native.Mathlib.Nat.{zero-mul}
use native.Mathlib.Omega.{arith}
use lib.Dec.{eqb, ltb}
use lib.ListN.{length, get_or, drop, replicate, get_or-replicate, get_or-eq_default}
use lib.Seq.{get_or-drop}
use borrow.Author.Tests.{eqb-false, ltb-true, ltb-false}
use Rattle.lists.specs.Counted.{up_to}
use Rattle.lists.specs.Written.{front}
use Rattle.lists.proofs.Ascending.{Ascending}
use Rattle.lists.proofs.Written.{written_front}
use Rattle.groups.specs.Histogram.{per_level, places}
use Rattle.groups.proofs.Each.{Each, each_weaken, each_snoc, ascending_snoc}
use Rattle.groups.proofs.Levels.{same_length}

-- ---- the levels
module _ (count : ℕ → ℕ) where
  abbrev pub levels : ℕ → List ℕ
  levels m = per_level count m (λ v. v)

  -- a level below m that is seen
  abbrev pub Seen : ℕ → ℕ → Type 0
  Seen m v = (v < m) × (count v ≡ 0 → ⊥)

  still : (m : ℕ) (vs : List ℕ) → Each (Seen m) vs → Each (Seen (suc m)) vs
  still m vs e = each_weaken (Seen m) (Seen (suc m)) vs (λ v s. (omega (arith, s.0), s.1)) e

  pub seen : (m : ℕ) → Each (Seen m) (levels m) × Ascending (levels m)
  unfolding up_to
  seen zero = (tt, tt)
  seen (suc m) = go (eqb (count m) 0) (eqb-false (count m) 0) (levels m) (seen m)
    where
      go : (t : Bool) → (t ≡ false → count m ≡ 0 → ⊥) → (vs : List ℕ) → Each (Seen m) vs × Ascending vs
          → Each (Seen (suc m)) (vs ++ cond t [] (m ∷ [])) × Ascending (vs ++ cond t [] (m ∷ []))
      go true n vs s = rw append-nil (still m vs s.0, s.1)
      go false n vs s = (
        each_snoc (Seen (suc m)) vs m (still m vs s.0) (omega arith, n refl),
        ascending_snoc vs m s.1 (each_weaken (Seen m) (λ v. v < m) vs (λ v e. e.0) s.0),
      )

  -- what is kept of each is a map of the levels
  mapped : (f : ℕ → ℕ) (m : ℕ) → per_level count m f ≡ map f (levels m)
  unfolding up_to
  mapped f zero = refl
  mapped f (suc m) = rw (mapped f m, map-append) (ap (λ z. map f (levels m) ++ z) (one (eqb (count m) 0)))
    where
      one : (t : Bool) → cond t [] (f m ∷ []) ≡ map f (cond t [] (m ∷ []))
      one true = refl
      one false = refl

  pub kept_at : (f : ℕ → ℕ) (m i : ℕ) → i < length (levels m) → get_or (per_level count m f) i 0 ≡ f (get_or (levels m) i 0)
  kept_at f m i h = rw (mapped f m) (at (levels m) i h)
    where
      at : (vs : List ℕ) (i : ℕ) → i < length vs → get_or (map f vs) i 0 ≡ f (get_or vs i 0)
      at [] i h = absurd (omega arith)
      at (v ∷ vs) zero h = refl
      at (v ∷ vs) (suc i) h = at vs i (omega arith)

  pub kept_past : (f : ℕ → ℕ) (m i : ℕ) → length (levels m) ≤ i → get_or (per_level count m f) i 0 ≡ 0
  kept_past f m i h = get_or-eq_default (per_level count m f) 0 {n = i} (rw (same_length count f (λ v. v) m) h)

  -- the product of what is kept, also past the levels
  pub kept_times : (f g : ℕ → ℕ) (m i : ℕ) → ((v : ℕ) → f v ≡ count v * g v)
      → get_or (per_level count m f) i 0 ≡ get_or (per_level count m count) i 0 * g (get_or (levels m) i 0)
  kept_times f g m i e = go (ltb i (length (levels m))) refl
    where
      go : (t : Bool) → ltb i (length (levels m)) ≡ t
          → get_or (per_level count m f) i 0 ≡ get_or (per_level count m count) i 0 * g (get_or (levels m) i 0)
      go true h =
          let l = ltb-true i (length (levels m)) h in
          rw (kept_at f m i l, kept_at count m i l) (e (get_or (levels m) i 0))
      go false h =
          let l = ltb-false i (length (levels m)) h in
          rw (kept_past f m i l, kept_past count m i l) (sym (zero-mul _))

-- ---- the places
abbrev zeros : List ℕ
zeros = replicate 32 0

pub place_at_is : (xs : List ℕ) (i : ℕ) → length xs ≤ 32 → get_or (places xs) i 0 ≡ get_or xs i 0
place_at_is xs i h =
    rw (written_front zeros xs h) (unfold front in (behind xs (drop (length xs) zeros) i (λ k. rest (length xs) k)))
  where
    -- zeros behind
    behind : (xs ys : List ℕ) (i : ℕ) → ((k : ℕ) → get_or ys k 0 ≡ 0) → get_or (xs ++ ys) i 0 ≡ get_or xs i 0
    behind [] ys i z = z i
    behind (x ∷ xs) ys zero z = refl
    behind (x ∷ xs) ys (suc i) z = behind xs ys i z

    rest : (n k : ℕ) → get_or (drop n zeros) k 0 ≡ 0
    rest n k = get_or-drop n zeros k 0 ∙ go (ltb (n + k) 32) refl
      where
        go : (t : Bool) → ltb (n + k) 32 ≡ t → get_or zeros (n + k) 0 ≡ 0
        go true h = get_or-replicate {A = ℕ} 32 (n + k) 0 0 (ltb-true (n + k) 32 h)
        go false h = get_or-eq_default zeros 0 {n = n + k} (ltb-false (n + k) 32 h)
