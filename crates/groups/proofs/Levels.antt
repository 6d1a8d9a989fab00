-- What is kept of each level that occurs: one level more, and one length for all.
use mathlib.Core.Path.{◌≡◌, refl, sym, ap, ◌∙◌}
use mathlib.Core.Bool.{Bool, true, false, cond}
use mathlib.Core.List.{List, [], ◌∷◌, ◌++◌, append-nil}
use Prim.Native.Nat.{ℕ, zero, suc, ◌+◌, ◌*◌, ◌≤◌, ◌<◌}
use Prim.Native.Nat.{zero-le}
use native.Mathlib.Nat.{zero-add, add-zero, add-suc}
use native.Mathlib.Numerals.{add-one}
use native.Mathlib.Omega.{arith}
use lib.Dec.{eqb}
use lib.ListN.{length, get_or, set, replicate, length-append}
use lib.Seq.{get_or-set_same, get_or-set_other}
use borrow.Author.Tests.{eq-eqb, ne_eqb, eqb-true, eqb-false}
use Rattle.lists.specs.Counted.{up_to, bit}
use Rattle.lists.specs.Written.{written}
use Rattle.lists.proofs.Counted.{bit_most}
use Rattle.lists.proofs.Written.{written_more, length_written}
use Rattle.groups.specs.declared.Histogram.{Histogram}
use Rattle.groups.specs.Histogram.{occurs, per_level, places, gathered}

-- ---- counting

pub occurs_le : (xs : List ℕ) (v : ℕ) → occurs xs v ≤ length xs
unfolding occurs
occurs_le [] v = zero-le
occurs_le (x ∷ xs) v = omega (arith, bit_most (eqb x v), occurs_le xs v)

-- one cell of the level x more
pub counted : (counts : List ℕ) (x v : ℕ) → x < length counts
    → get_or (set counts x (get_or counts x 0 + 1)) v 0 ≡ get_or counts v 0 + bit (eqb x v)
counted counts x v h = go (eqb x v) refl
  where
    go : (t : Bool) → eqb x v ≡ t → get_or (set counts x (get_or counts x 0 + 1)) v 0 ≡ get_or counts v 0 + bit t
    go true e = rw (← eqb-true x v e) (get_or-set_same counts x _ 0 h)
    go false e = get_or-set_other counts x v _ 0 (λ d. eqb-false x v e (sym d)) ∙ sym (add-zero _)

-- ---- what is kept of each level
pub places_length : (xs : List ℕ) → length (places xs) ≡ 32
places_length xs = length_written (replicate 32 0) 0 xs

module _ (count : ℕ → ℕ) where
  pub same_length : (f g : ℕ → ℕ) (m : ℕ) → length (per_level count m f) ≡ length (per_level count m g)
  unfolding up_to
  same_length f g zero = refl
  same_length f g (suc m) = simp length-append (cc (same_length f g m, one (eqb (count m) 0)))
    where
      one : (t : Bool) → length (cond t [] (f m ∷ [])) ≡ length (cond t [] (g m ∷ []))
      one true = refl
      one false = refl

  -- a level that does not occur
  pub none_more : (f : ℕ → ℕ) (v : ℕ) → count v ≡ 0 → per_level count (v + 1) f ≡ per_level count v f
  unfolding up_to
  none_more f v e = rw (add-one, up_to, eq-eqb (count v) 0 e) (append-nil _)

  -- a level that does
  one_more : (f : ℕ → ℕ) (v : ℕ) → (count v ≡ 0 → ⊥) → per_level count (v + 1) f ≡ per_level count v f ++ (f v ∷ [])
  unfolding up_to
  one_more f v e = rw (add-one, up_to, ne_eqb (count v) 0 e) refl

  -- ... is stored behind the others
  placed : (f : ℕ → ℕ) (n v : ℕ) (old : List ℕ) → n ≡ length (per_level count v (λ l. l)) → (count v ≡ 0 → ⊥)
      → old ≡ places (per_level count v f) → set old n (f v) ≡ places (per_level count (v + 1) f)
  unfolding written
  placed f n v old e h p =
      let a : n ≡ 0 + length (per_level count v f) = e ∙ same_length (λ l. l) f v ∙ sym (zero-add _) in
      rw (p, a)
      (rw (ne_eqb (count v) 0 h) at (written_more (λ l. cond (eqb (count l) 0) [] (f l ∷ [])) (replicate 32 0) 0 v))

  pub no_level : (v : ℕ) → count v ≡ 0 → gathered count (v + 1) ≡ gathered count v
  no_level v e =
      cc (
        none_more (λ l. l) v e,
        none_more count v e,
        none_more (λ l. count l * l) v e,
        none_more (λ l. count l * (l * l)) v e,
      )

  pub one_level : (v : ℕ) (old : Histogram) (n : ℕ) (w s q : List ℕ) → old ≡ gathered count v → (count v ≡ 0 → ⊥)
      → n ≡ old.n + 1 → w ≡ set old.w old.n (count v) → s ≡ set old.s old.n (count v * v)
      → q ≡ set old.q old.n (count v * (v * v)) → record { n = n; w = w; s = s; q = q } ≡ gathered count (v + 1)
  one_level v old n w s q e h n-is w-is s-is q-is =
      let m : old.n ≡ length (per_level count v (λ l. l)) = ap (λ z. z.n) e in
      let n' : n ≡ length (per_level count (v + 1) (λ l. l)) =
      n-is ∙ ap (λ z. z + 1) m
      ∙ sym (ap length (one_more (λ l. l) v h) ∙ length-append (per_level count v (λ l. l)) (v ∷ [])) in
      let w' = w-is ∙ placed count old.n v old.w m h (ap (λ z. z.w) e) in
      let s' = s-is ∙ placed (λ l. count l * l) old.n v old.s m h (ap (λ z. z.s) e) in
      let q' = q-is ∙ placed (λ l. count l * (l * l)) old.n v old.q m h (ap (λ z. z.q) e) in
      cc (n', w', s', q')

-- ---- counts that agree, over a range that holds all that occur
agree : (f g a b : ℕ → ℕ) (m : ℕ) → ((v : ℕ) → v < m → (f v ≡ g v) × (a v ≡ b v)) → per_level f m a ≡ per_level g m b
unfolding up_to
agree f g a b zero h = refl
agree f g a b (suc m) h =
    let e = h m (omega arith) in
    rw (agree f g a b m (λ v l. h v (omega arith)), e.0, e.1) refl

-- m + k is past the last that occurs
past : (g b : ℕ → ℕ) (m k : ℕ) → ((v : ℕ) → m ≤ v → g v ≡ 0) → per_level g (m + k) b ≡ per_level g m b
past g b m zero h = rw (add-zero m) refl
past g b m (suc k) h =
    rw (add-suc m k, ← add-one (m + k)) (none_more g b (m + k) (h (m + k) (omega arith)) ∙ past g b m k h)

module _ (f g : ℕ → ℕ) (m k : ℕ) (same : (v : ℕ) → v < m → f v ≡ g v) (none : (v : ℕ) → m ≤ v → g v ≡ 0) where
  whole : (a b : ℕ → ℕ) → ((v : ℕ) → v < m → a v ≡ b v) → per_level f m a ≡ per_level g (m + k) b
  whole a b h = agree f g a b m (λ v l. (same v l, h v l)) ∙ sym (past g b m k none)

  pub gathered_is : gathered f m ≡ gathered g (m + k)
  gathered_is = cc (
    whole (λ v. v) (λ v. v) (λ v l. refl),
    whole f g same,
    whole (λ v. f v * v) (λ v. g v * v) (λ v l. ap (λ z. z * v) (same v l)),
    whole (λ v. f v * (v * v)) (λ v. g v * (v * v)) (λ v l. ap (λ z. z * (v * v)) (same v l)),
  )

-- no cell's level is v, where all are below it
pub none_occurs : (xs : List ℕ) (m v : ℕ) → ((i : ℕ) → i < length xs → get_or xs i 0 < m) → m ≤ v → occurs xs v ≡ 0
unfolding occurs
none_occurs [] m v h l = refl
none_occurs (x ∷ xs) m v h l =
    let apart : x ≡ v → ⊥ = λ e. omega (arith, h 0 (omega arith)) in
    rw (ne_eqb x v apart) (zero-add _ ∙ none_occurs xs m v (λ i k. h (suc i) (omega arith)) l)
