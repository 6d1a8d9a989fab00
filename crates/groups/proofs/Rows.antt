-- The rows of the tables: how one is filled, entry by entry, and that the rows are the programme's.
use mathlib.Core.Path.{◌≡◌, refl, ap, ◌∙◌}
use mathlib.Core.Logic.{◌⊎◌, inl, inr}
use mathlib.Core.Bool.{false}
use mathlib.Core.List.{List}
use Prim.Native.Nat.{ℕ, zero, suc, ◌+◌, ◌-◌, ◌*◌, ◌≤◌, ◌<◌}
use native.Mathlib.Nat.{le_trans, zero-add, suc-mul, eq-or-lt_of_le}
use native.Mathlib.Numerals.{add-one}
use native.Mathlib.Omega.{arith}
use lib.ListN.{length, get_or, set, replicate, length-set, get_or-replicate}
use lib.Seq.{get_or-set_same, get_or-set_other}
use lib.Ieee.{Float, nan, inf, binary64, of_bits}
use borrow.Author.Count.{below_more}
use Rattle.groups.specs.declared.Best.{Best}
use Rattle.groups.specs.Groups.{first_of, best_of, cost_in, cut_in}
use Rattle.groups.specs.Tables.{row_at, Filled, Tabled}

module _ (pw ps pq : List Float) where
  -- only the entries from k on and before j count
  first_same : (p q : ℕ → Float) (k j m : ℕ) → ((i : ℕ) → i < m → p (k + i) ≡ q (k + i))
      → first_of pw ps pq p k j m ≡ first_of pw ps pq q k j m
  unfolding first_of
  first_same p q k j zero h = refl
  first_same p q k j (suc m) h = rw (first_same p q k j m (λ i l. h i (omega arith)), h m (omega arith)) refl

  pub best_same : (p q : ℕ → Float) (k j : ℕ) → ((i : ℕ) → i < j → p i ≡ q i)
      → best_of pw ps pq p k j ≡ best_of pw ps pq q k j
  best_same p q k j h = first_same p q k j (j - k) (λ i l. h (k + i) (omega arith))

  -- ---- one row
  module _ (k j : ℕ) (cost₀ cost : List Float) (cut₀ cut : List ℕ) (b : Best) (f : Filled pw ps pq k j cost₀ cost cut₀ cut)
      (is : b ≡ best_of pw ps pq (row_at cost (k * 33)) k j)
      (in-cost : k * 33 + 33 + j < length cost) (in_cut : k * 33 + 33 + j < length cut)
      (before : j < 33) where
    -- row k stands as it did
    same : b ≡ best_of pw ps pq (row_at cost₀ (k * 33)) k j
    same = is ∙ best_same (row_at cost (k * 33)) (row_at cost₀ (k * 33)) k j (λ i h. f.kept (k * 33 + i) (omega arith))

    pub more : Filled pw ps pq k (j + 1)
        cost₀ (set cost (k * 33 + 33 + j) b.cost) cut₀ (set cut (k * 33 + 33 + j) b.cut)
    more =
        let at = k * 33 + 33 + j in
        let row = row_at cost₀ (k * 33) in
        record {
          len = length-set cost at b.cost ∙ f.len;
          len_cuts = length-set cut at b.cut ∙ f.len_cuts;
          costs = below_more (λ i. get_or (set cost at b.cost) (k * 33 + 33 + i) nan ≡ (best_of pw ps pq row k i).cost) j
              (λ i l. get_or-set_other cost at (k * 33 + 33 + i) b.cost nan (λ e. omega arith) ∙ f.costs i l)
              (get_or-set_same cost at b.cost nan in-cost ∙ ap (λ x. x.cost) same);
          cuts = below_more (λ i. get_or (set cut at b.cut) (k * 33 + 33 + i) 0 ≡ (best_of pw ps pq row k i).cut) j
              (λ i l. get_or-set_other cut at (k * 33 + 33 + i) b.cut 0 (λ e. omega arith) ∙ f.cuts i l)
              (get_or-set_same cut at b.cut 0 in_cut ∙ ap (λ x. x.cut) same);
          kept = (λ m l. get_or-set_other cost at m b.cost nan (λ e. omega arith) ∙ f.kept m l);
          kept_cuts = (λ m l. get_or-set_other cut at m b.cut 0 (λ e. omega arith) ∙ f.kept_cuts m l);
        }

  -- ---- all rows
  -- row 0: no level costs nothing, and more cannot be had in no group
  pub first_row : (n : ℕ) (cut : List ℕ) → n ≤ 32
      → Tabled pw ps pq n 0 (set (replicate 297 (inf false)) 0 (of_bits binary64 0)) cut
  unfolding cost_in
  first_row n cut h = record {
    costs = (λ k j l g. let e : k ≡ 0 = omega arith in rw (e, zero-add j) (at j (omega arith)));
    cuts = (λ k j l g. absurd (omega arith));
  }
    where
      at : (j : ℕ) → j < 297 → get_or (set (replicate 297 (inf false)) 0 (of_bits binary64 0)) j nan ≡ cost_in pw ps pq 0 j
      at zero g = refl
      at (suc j) g = get_or-replicate 296 j (inf false) nan (omega arith)

  -- up to a lesser row
  pub fewer_rows : (n K k : ℕ) (cost : List Float) (cut : List ℕ) → k ≤ K → Tabled pw ps pq n K cost cut
      → Tabled pw ps pq n k cost cut
  fewer_rows n K k cost cut h t =
      record { costs = (λ r j l g. t.costs r j (le_trans l h) g); cuts = (λ r j l g. t.cuts r j (le_trans l h) g) }

  -- one row more
  module _ (n k : ℕ) (cost cost' : List Float) (cut cut' : List ℕ) (small : n ≤ 32)
      (t : Tabled pw ps pq n k cost cut) (f : Filled pw ps pq k (n + 1) cost cost' cut cut') where
    entry : (j : ℕ) → j ≤ n → best_of pw ps pq (row_at cost (k * 33)) k j ≡ best_of pw ps pq (cost_in pw ps pq k) k j
    entry j g = best_same (row_at cost (k * 33)) (cost_in pw ps pq k) k j (λ i l. t.costs k i (omega arith) (omega arith))

    pub next_row_tabled : Tabled pw ps pq n (k + 1) cost' cut'
    unfolding cost_in
    next_row_tabled = record {
      costs = (λ r j l g. cost_at_holds r j g (eq-or-lt_of_le l));
      cuts = (λ r j l g. cut_at r j g (eq-or-lt_of_le l));
    }
      where
        cost_at_holds : (r j : ℕ) → j ≤ n → (r ≡ k + 1) ⊎ (r < k + 1) → get_or cost' (r * 33 + j) nan ≡ cost_in pw ps pq r j
        cost_at_holds r j g (inr h) = f.kept (r * 33 + j) (omega arith) ∙ t.costs r j (omega arith) g
        cost_at_holds r j g (inl e) = rw (e, add-one, suc-mul) (f.costs j (omega arith) ∙ ap (λ b. b.cost) (entry j g))

        cut_at : (r j : ℕ) → j ≤ n → (suc r ≡ k + 1) ⊎ (suc r < k + 1) → get_or cut' (r * 33 + 33 + j) 0 ≡ cut_in pw ps pq r j
        cut_at r j g (inr h) = f.kept_cuts (r * 33 + 33 + j) (omega arith) ∙ t.cuts r j (omega arith) g
        cut_at r j g (inl e) = let d : r ≡ k = omega arith in rw d (f.cuts j (omega arith) ∙ ap (λ b. b.cut) (entry j g))
