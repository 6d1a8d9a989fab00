-- Lists that can be told apart from their front. `Splits u v K`: wherever u and a rest read as v and a rest, K holds and
-- the rests are one. Pieces are put together by `cons`, `then` and `loop`, each with what the ones before it told.
-- Assumes nothing.
use mathlib.Core.Path.{◌≡◌, refl, sym, ap, ◌∙◌}
use mathlib.Core.List.{List, [], ◌∷◌, ◌++◌, append_assoc, append-nil}
use Prim.Native.Nat.{ℕ, zero, suc, ◌<◌}
use native.Mathlib.Omega.{arith}
use lib.ListN.{length, take, drop, take-append-drop}
use lib.Seq.{ext_get_or, get_or-take, length-take-le}
use Rattle.lists.specs.Counted.{up_to}
use Rattle.listing.specs.Listing.{Begins}

pub record Splits (u v : List ℕ) (K : Type 0) : Type 0 where
  pub split : (r s : List ℕ) → u ++ r ≡ v ++ s → K × (r ≡ s)

pub nil : {K : Type 0} → K → Splits [] [] K
nil k = record { split = λ r s e. (k, e) }

-- one word, and what it tells the rest
pub cons : {x y : ℕ} {u v : List ℕ} {K : Type 0} → (x ≡ y → Splits u v K) → Splits (x ∷ u) (y ∷ v) K
cons {x} {y} {u} {v} f = record {
  split = λ r s e.
      let h : x ≡ y = cc in
      let t : u ++ r ≡ v ++ s = cc in
      (f h).split r s t;
}

pub weaken : {u v : List ℕ} {K L : Type 0} → (K → L) → Splits u v K → Splits u v L
weaken f g = record { split = λ r s e. let (k, t) = g.split r s e in (f k, t) }

-- one piece, and what it tells the next
pub then : {u v u' v' : List ℕ} {K L : Type 0} → Splits u v K → (K → Splits u' v' L) → Splits (u ++ u') (v ++ v') L
then {u} {v} {u'} {v'} g f = record {
  split = λ r s e.
      let (k, t) = g.split (u' ++ r) (v' ++ s) (sym (append_assoc u u' r) ∙ e ∙ append_assoc v v' s) in
      (f k).split r s t;
}

-- a piece for each number below n
pub loop : (f g : ℕ → List ℕ) (K : ℕ → Type 0) (n : ℕ) → K 0
    → ((i : ℕ) → i < n → K i → Splits (f i) (g i) (K (suc i))) → Splits (up_to f n) (up_to g n) (K n)
unfolding up_to
loop f g K zero k step = nil k
loop f g K (suc n) k step = then (loop f g K n k (λ i h. step i (omega arith))) (step n (omega arith))

-- a list that begins another is its front
begins_front : (u v : List ℕ) → Begins u v → u ++ drop (length u) v ≡ v
begins_front u v b =
    let l : length (take (length u) v) ≡ length u = length-take-le (length u) v b.few in
    let f : take (length u) v ≡ u =
    ext_get_or 0 (take (length u) v) u l
    (λ i h. let g : i < length u = omega arith in get_or-take (length u) v i 0 g ∙ sym (b.words i g)) in
    ap (λ (l : List ℕ). l ++ drop (length u) v) (sym f) ∙ take-append-drop (length u) v

-- what two lists tell when one begins the other
pub tell : {u v : List ℕ} {K : Type 0} → Splits u v K → Begins u v → K
tell {u} {v} f b = (f.split (drop (length u) v) [] (begins_front u v b ∙ sym (append-nil v))).0

pub begins_same : (u v : List ℕ) → u ≡ v → Begins u v
begins_same u v e = rw e (record { few = omega arith; words = λ i h. refl })
