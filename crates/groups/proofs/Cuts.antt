-- Cuts of the levels into groups: where the groups of the cheapest cut start, and that the tables hold this cut.
use mathlib.Core.Path.{◌≡◌, refl, sym, ap, subst}
use mathlib.Core.Bool.{Bool, true, false, cond}
use mathlib.Core.List.{List, [], ◌∷◌}
use Prim.Native.Nat.{ℕ, zero, suc, ◌+◌, ◌-◌, ◌*◌, ◌≤◌, ◌<◌}
use native.Mathlib.Nat.{zero-add, le_refl}
use native.Mathlib.Omega.{arith}
use lib.ListN.{length, get_or}
use lib.Ieee.{Float, nan, inf, fin, binary64, add, lt}
use Rattle.groups.specs.declared.Best.{Best}
use Rattle.groups.specs.declared.Histogram.{Histogram}
use Rattle.groups.specs.Groups.{prefix_of, cost_of, cheaper, IsCut, first_of, cost_in, cut_in, chosen, cut_to}
use Rattle.groups.specs.Tables.{CutsOf}

pub cut_length : (k j : ℕ) (cut : List ℕ) → IsCut k j cut → length cut ≡ k
cut_length zero j [] c = refl
cut_length zero j (i ∷ cut) c = absurd c
cut_length (suc k) j [] c = absurd c
cut_length (suc k) j (i ∷ cut) c = ap suc (cut_length k i cut c.1)

-- ---- where a cut lies
-- what holds of both cuts holds of the cheaper
cheaper_cut : (P : ℕ → Type 0) (b : Best) (c : Float) (i : ℕ) → P b.cut → P i → P (cheaper b c i).cut
cheaper_cut P b c i p q = go (lt c b.cost)
  where
    go : (t : Bool) → P (cond {A = Best} t (record { cost = c; cut = i }) b).cut
    go true = q
    go false = p

module _ (pw ps pq : List Float) where
  first_from : (row : ℕ → Float) (k j m : ℕ) → k ≤ (first_of pw ps pq row k j m).cut
  unfolding first_of
  first_from row k j zero = le_refl k
  first_from row k j (suc m) =
      cheaper_cut (λ i. k ≤ i) (first_of pw ps pq row k j m) _ (k + m) (first_from row k j m) (omega arith)

  first_to : (row : ℕ → Float) (k j m : ℕ) → (first_of pw ps pq row k j (suc m)).cut < k + suc m
  unfolding first_of
  first_to row k j zero =
      cheaper_cut (λ i. i < k + 1) (record { cost = inf false; cut = k }) _ (k + 0) (omega arith) (omega arith)
  first_to row k j (suc m) =
      let l = first_to row k j m in
      cheaper_cut (λ i. i < k + suc (suc m)) (first_of pw ps pq row k j (suc m)) _ (k + suc m) (omega arith) (omega arith)

  -- the last of k + 1 groups of the first j levels starts where k levels are left, and before the end
  pub cut_from : (k j : ℕ) → k ≤ cut_in pw ps pq k j
  cut_from k j = first_from (cost_in pw ps pq k) k j (j - k)

  pub cut_to_holds : (k j : ℕ) → k < j → cut_in pw ps pq k j < j
  cut_to_holds k j h =
      let e : j - k ≡ suc (j - suc k) = omega arith in
      let g = first_to (cost_in pw ps pq k) k j (j - suc k) in
      subst (λ m. (first_of pw ps pq (cost_in pw ps pq k) k j m).cut < j) (sym e) (omega (arith, g))

  -- in no group there is only no level, so the first group starts at 0
  never : (y b : Float) → lt (add binary64 (inf false) y) b ≡ false
  unfolding add lt
  never nan b = refl
  never (inf true) b = refl
  never (inf false) nan = refl
  never (inf false) (inf true) = refl
  never (inf false) (inf false) = refl
  never (inf false) (fin s m e) = refl
  never (fin t n d) nan = refl
  never (fin t n d) (inf true) = refl
  never (fin t n d) (inf false) = refl
  never (fin t n d) (fin s m e) = refl

  first_zero : (j m : ℕ) → (first_of pw ps pq (cost_in pw ps pq 0) 0 j m).cut ≡ 0
  unfolding first_of
  first_zero j zero = refl
  first_zero j (suc zero) = cheaper_cut (λ i. i ≡ 0) (record { cost = inf false; cut = 0 }) _ (0 + 0) refl refl
  first_zero j (suc (suc m)) =
      let b = first_of pw ps pq (cost_in pw ps pq 0) 0 j (suc m) in
      let e : lt (add binary64 (cost_in pw ps pq 0 (0 + suc m)) (cost_of pw ps pq (0 + suc m) j)) b.cost ≡ false =
      rw (zero-add (suc m)) (unfold cost_in in (never (cost_of pw ps pq (suc m) j) b.cost)) in
      rw e (first_zero j (suc m))

  pub chosen_cut : (k j : ℕ) → k ≤ j → (k ≡ 0 → j ≡ 0) → IsCut k j (chosen pw ps pq k j)
  unfolding chosen
  chosen_cut zero j h z = z refl
  chosen_cut (suc k) j h z = (
    cut_to_holds k j h,
    chosen_cut k (cut_in pw ps pq k j) (cut_from k j) (λ e. rw e (first_zero j (j - 0))),
  )

-- ---- the cut by the table
unfoldable pub traced : List ℕ → ℕ → ℕ → List ℕ
traced cuts zero j = []
traced cuts (suc k) j = get_or cuts (k * 33 + 33 + j) 0 ∷ traced cuts k (get_or cuts (k * 33 + 33 + j) 0)

pub traced_is : (h : Histogram) (K : ℕ) (cuts : List ℕ) → CutsOf h K cuts → (k j : ℕ) → k ≤ K → k ≤ j → j ≤ h.n
    → traced cuts k j ≡ chosen (prefix_of h.w) (prefix_of h.s) (prefix_of h.q) k j
unfolding traced chosen
traced_is h K cuts t zero j a b d = refl
traced_is h K cuts t (suc k) j a b d =
    let l = cut_to_holds (prefix_of h.w) (prefix_of h.s) (prefix_of h.q) k j b in
    rw (t k j a d) (ap (λ z. cut_to h k j ∷ z) (traced_is h K cuts t k (cut_to h k j) (omega arith)
    (cut_from (prefix_of h.w) (prefix_of h.s) (prefix_of h.q) k j) (omega (arith, l))))

pub traced_length : (cuts : List ℕ) (k j : ℕ) → length (traced cuts k j) ≡ k
unfolding traced
traced_length cuts zero j = refl
traced_length cuts (suc k) j = ap suc (traced_length cuts k (get_or cuts (k * 33 + 33 + j) 0))
