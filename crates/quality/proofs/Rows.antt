-- One row of the programme from the row before: the f64 cost stays close to the exact sum of the chosen cut, and not far
-- above that of any cut. Each group adds at most 2 ^ -15, or 2 ^ 1059 units: half for its cost, half for the addition.
use mathlib.Core.Path.{◌≡◌, refl, ap, ◌∙◌, subst}
use mathlib.Core.Logic.{◌⊎◌, inl, inr}
use mathlib.Core.Bool.{Bool, true, false, cond}
use mathlib.Core.List.{List, [], ◌∷◌}
use Prim.Native.Nat.{ℕ, zero, suc, ◌+◌, ◌-◌, ◌*◌, ◌^◌, ◌≤◌, ◌<◌, zero-le}
use native.Mathlib.Nat.{le_trans, le_of_eq, le_of_lt, zero-mul, mul-le-mul_right, add-suc}
use native.Mathlib.Omega.{arith}
use lib.Dec.{lit≤, lit<}
use lib.Ieee.{Float, fin, inf, binary64, add, lt, of_bits, nan}
use Rattle.ieee.proofs.Compare.{lt_itself}
use Rattle.ieee.proofs.Signed.{Is, NearTo, add_near, lt_true, lt_false}
use Rattle.groups.specs.declared.Best.{Best}
use Rattle.groups.specs.declared.Histogram.{Histogram}
use Rattle.groups.specs.Histogram.{sum_to, IsHistogram}
use Rattle.groups.specs.Groups.{IsCut, prefix_of, cost_of, cheaper, first_of, cost_in, chosen, cost_to}
use Rattle.quality.specs.Quality.{group_sum, exact_sum}
use Rattle.quality.proofs.Units.{AtMost, AtLeast, most_plus, least_plus, most_round, least_round}
use Rattle.quality.proofs.Units.{most_size, least_size, most_less}
use Rattle.quality.proofs.Cuts.{cut_size, From, Joined, of_both, last_start}
use Rattle.quality.proofs.Sums.{den_pos, size}
use Rattle.quality.proofs.Group.{Around, squares_small, cost_around}

-- ---- floats
finite_less : (x : Float) (p n : ℕ) → Is binary64 x p n → lt x (inf false) ≡ true
unfolding lt
finite_less nan p n h = elim h [ ]
finite_less (inf _) p n h = elim h [ ]
finite_less (fin s m e) p n h = refl

infinite_not_less : (x : Float) (p n : ℕ) → Is binary64 x p n → lt (inf false) x ≡ false
unfolding lt
infinite_not_less nan p n h = elim h [ ]
infinite_not_less (inf _) p n h = elim h [ ]
infinite_not_less (fin s m e) p n h = refl

infinite_sum : (x : Float) (p n : ℕ) → Is binary64 x p n → add binary64 (inf false) x ≡ inf false
unfolding add
infinite_sum nan p n h = elim h [ ]
infinite_sum (inf _) p n h = elim h [ ]
infinite_sum (fin s m e) p n h = refl

-- ---- plain arithmetic
room_up : (p n L e M B : ℕ) → p ≤ n + B * L + e → B ≤ M → e ≤ M * L → p ≤ n + (M + M) * L
room_up p n L e M B h b g = omega (arith, mul-le-mul_right L b)

room_down : (p n L e M : ℕ) → n ≤ p + e → e ≤ M * L → n ≤ p + (M + M) * L
room_down p n L e M h g = omega arith

few_units : (k u M : ℕ) → k ≤ 7 → 15 * u ≤ M → k * (2 * u) + u ≤ M
few_units k u M h g = omega (arith, mul-le-mul_right u h)

units : (k u : ℕ) → k * (2 * u) + u + u ≡ suc k * (2 * u)
units k u = omega arith

module _ (v : List ℕ) (h : Histogram) (is : IsHistogram v h) where
  -- of the cuts S of the first j levels, x is close to the sum of o, and not far above that of any
  pub record Cheapest (S : List ℕ → Type 0) (j e : ℕ) (x : Float) (o : List ℕ) : Type 0 where
    pub P : ℕ
    pub N : ℕ
    pub value : Is binary64 x P N
    pub mine : S o
    pub least : AtLeast (2 ^ 1074) P N (exact_sum h j o) e
    pub most : (c : List ℕ) → S c → AtMost (2 ^ 1074) P N (exact_sum h j c) e

  -- there is no cut, and x is infinite
  pub record NoCut (S : List ℕ → Type 0) (x : Float) : Type 0 where
    pub infinite : x ≡ inf false
    pub none : (c : List ℕ) → S c → ⊥

  abbrev pub Known : (List ℕ → Type 0) → ℕ → ℕ → Float → List ℕ → Type 0
  Known S j e x o = Cheapest S j e x o ⊎ NoCut S x

  -- ---- the cheaper of two, where o says the cut of a start
  module _ {S R U : List ℕ → Type 0} (joined : Joined S R U) (j e : ℕ) (b : Best) (y : Float) (i : ℕ) (o : ℕ → List ℕ) where
    abbrev Of : Best → Type 0
    Of b = Known U j e b.cost (o b.cut)

    -- x, which is near the sum of o, is not far above those of U either
    wider : {T : List ℕ → Type 0} {x : Float} {o : List ℕ} (g : Cheapest T j e x o) → U o
        → ((c : List ℕ) → S c → AtMost (2 ^ 1074) g.P g.N (exact_sum h j c) e)
        → ((c : List ℕ) → R c → AtMost (2 ^ 1074) g.P g.N (exact_sum h j c) e) → Known U j e x o
    wider g u f f' =
        let most = of_both joined (λ c. AtMost (2 ^ 1074) g.P g.N (exact_sum h j c) e) f f' in
        inl (record { P = g.P; N = g.N; value = g.value; mine = u; least = g.least; most = most })

    stays : (g : Cheapest S j e b.cost (o b.cut))
        → ((c : List ℕ) → R c → AtMost (2 ^ 1074) g.P g.N (exact_sum h j c) e) → Of b
    stays g f = wider g (joined.left _ g.mine) g.most f

    comes : (g : Cheapest R j e y (o i)) → ((c : List ℕ) → S c → AtMost (2 ^ 1074) g.P g.N (exact_sum h j c) e)
        → Of (record { cost = y; cut = i })
    comes g f = wider g (joined.right _ g.mine) f g.most

    pub cheaper_of : Known S j e b.cost (o b.cut) → Known R j e y (o i) → Of (cheaper b y i)
    cheaper_of (inl g) (inl c) = go (lt y b.cost) refl
      where
        go : (t : Bool) → lt y b.cost ≡ t → Of (cond t (record { cost = y; cut = i }) b)
        go true l =
            let less = lt_true binary64 y b.cost c.P c.N g.P g.N c.value g.value l in
            comes c (λ d s. most_less (le_of_lt less) (g.most d s))
        go false l =
            let less = lt_false binary64 y b.cost c.P c.N g.P g.N c.value g.value l in
            stays g (λ d r. most_less less (c.most d r))
    cheaper_of (inl g) (inr c) =
        let t : lt y b.cost ≡ false = rw c.infinite (infinite_not_less b.cost g.P g.N g.value) in
        rw t (stays g (λ d r. absurd (c.none d r)))
    cheaper_of (inr g) (inl c) =
        let t : lt y b.cost ≡ true = ap (λ z. lt y z) g.infinite ∙ finite_less y c.P c.N c.value in
        rw t (comes c (λ d s. absurd (g.none d s)))
    cheaper_of (inr g) (inr c) =
        let t : lt y b.cost ≡ false = ap (λ z. lt y z) g.infinite ∙ rw c.infinite (lt_itself (inf false)) in
        rw t (inr (record { infinite = g.infinite; none = of_both joined (λ d. ⊥) g.none c.none }))

  -- ---- a candidate: one group more, from i to j
  abbrev cut_at : ℕ → ℕ → List ℕ
  cut_at k j = chosen (prefix_of h.w) (prefix_of h.s) (prefix_of h.q) k j

  abbrev cost : ℕ → ℕ → Float
  cost i j = cost_of (prefix_of h.w) (prefix_of h.s) (prefix_of h.q) i j

  abbrev pub Entry : ℕ → ℕ → Type 0
  Entry k j = Known (IsCut k j) j (k * 2 ^ 1059) (cost_to h k j) (cut_at k j)

  tried : (k i j : ℕ) → k ≤ 7 → i < j → j ≤ h.n → Entry k i
      → Known (From k i) j (suc k * 2 ^ 1059) (add binary64 (cost_to h k i) (cost i j)) (i ∷ cut_at k i)
  unfolding exact_sum
  tried k i j few a b (inr none) =
      let c = cost_around v h is i j a b in
      inr (record { infinite = rw none.infinite (infinite_sum (cost i j) c.P c.N c.is); none = out })
    where
      out : (c : List ℕ) → From k i c → ⊥
      out [] x = elim x [ ]
      out (a ∷ c) x = none.none c (rw x.0 at x.1)
  tried k i j few a b (inl g) =
      let c = cost_around v h is i j a b in
      let o = cut_at k i in
      let pos = den_pos v h is (suc k) j (i ∷ o) (a, g.mine) b in
      let m = most_plus (g.most o g.mine) c.most in
      let l = least_plus g.least c.least in
      let small : k * 2 ^ 1059 + 2 ^ 1058 ≤ 2 ^ 36 * 2 ^ 1074 =
      few_units k (2 ^ 1058) (2 ^ 36 * 2 ^ 1074) few (lit≤ tt) in
      let up : g.P + c.P ≤ g.N + c.N + 2 ^ 37 * 2 ^ 1074 =
      room_up (g.P + c.P) (g.N + c.N) (2 ^ 1074) (k * 2 ^ 1059 + 2 ^ 1058) (2 ^ 36) (sum_to h.q j)
      (most_size (sum_to h.q j) pos m (size v h is (suc k) j (i ∷ o) (a, g.mine))) (squares_small v h is j b) small in
      let down : g.N + c.N ≤ g.P + c.P + 2 ^ 37 * 2 ^ 1074 =
      room_down (g.P + c.P) (g.N + c.N) (2 ^ 1074) (k * 2 ^ 1059 + 2 ^ 1058) (2 ^ 36) (least_size pos l) small in
      let r : NearTo binary64 (add binary64 (cost_to h k i) (cost i j)) (g.P + c.P) (g.N + c.N) (2 ^ 1059) =
      add_near binary64 37 (lit< tt) (cost_to h k i) (cost i j) g.P g.N c.P c.N g.value c.is up down in
      inl (record {
        P = r.P;
        N = r.N;
        value = r.is;
        mine = (refl, g.mine);
        least = rw (← units k (2 ^ 1058)) (least_round (2 ^ 1058) r.under l);
        most = all c r;
      })
    where
      all : (c : Around (cost i j) (group_sum h i j) (2 ^ 1058))
          (r : NearTo binary64 (add binary64 (cost_to h k i) (cost i j)) (g.P + c.P) (g.N + c.N) (2 ^ 1059))
          (d : List ℕ) → From k i d → AtMost (2 ^ 1074) r.P r.N (exact_sum h j d) (suc k * 2 ^ 1059)
      all c r [] x = elim x [ ]
      all c r (a ∷ d) x =
          let m = most_plus (g.most d (rw x.0 at x.1)) c.most in
          rw (x.0, ← units k (2 ^ 1058)) (most_round (2 ^ 1058) r.over m)

  -- ---- the scan over the last group's start, and all rows
  abbrev best : ℕ → ℕ → ℕ → Best
  best k j m = first_of (prefix_of h.w) (prefix_of h.s) (prefix_of h.q) (cost_to h k) k j m

  -- the best of the first m starts
  scan : (k j m : ℕ) → k ≤ 7 → ((i : ℕ) → k ≤ i → i ≤ h.n → Entry k i) → k + m ≤ j → j ≤ h.n
      → let b = best k j m in Known (IsCut (suc k) (k + m)) j (suc k * 2 ^ 1059) b.cost (b.cut ∷ cut_at k b.cut)
  unfolding first_of
  scan k j zero few row l b =
      inr (record { infinite = refl; none = (λ c x. absurd (omega (arith, cut_size (suc k) (k + 0) c x))) })
  scan k j (suc m) few row l b =
      rw (add-suc k m)
      (cheaper_of (last_start k (k + m)) j (suc k * 2 ^ 1059) (best k j m) _ (k + m) (λ i. i ∷ cut_at k i)
      (scan k j m few row (omega arith) b)
      (tried k (k + m) j few (omega arith) b (row (k + m) (omega arith) (omega arith))))

  pub entry : (k j : ℕ) → k ≤ 8 → k ≤ j → j ≤ h.n → Entry k j
  unfolding cost_in chosen exact_sum of_bits
  entry zero zero few l b = inl (record {
    P = 0;
    N = 0;
    value = refl;
    mine = refl;
    least = record { le = lit≤ tt };
    most = (λ o x. record { le = le_trans (le_of_eq (zero-mul (exact_sum h 0 o).den)) zero-le });
  })
  entry zero (suc j) few l b = inr (record { infinite = refl; none = out })
    where
      out : (c : List ℕ) → IsCut 0 (suc j) c → ⊥
      out (_ ∷ _) x = elim x [ ]
      out [] x = omega arith
  entry (suc k) j few l b =
      let e : k + (j - k) ≡ j = omega arith in
      subst (λ z. Known (IsCut (suc k) z) j (suc k * 2 ^ 1059) (cost_to h (suc k) j) (cut_at (suc k) j)) e
      (scan k j (j - k) (omega arith) (λ i x y. entry k i (omega arith) x y) (omega arith) b)
