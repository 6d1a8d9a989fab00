-- Lists made place by place, and a buffer that is filled from the front with what another list has. Assumes nothing.
use mathlib.Core.Path.{◌≡◌, refl, subst, ◌∙◌}
use mathlib.Core.List.{List, [], ◌∷◌}
use Prim.Native.Nat.{ℕ, zero, suc, ◌+◌, ◌≤◌, ◌<◌}
use native.Mathlib.Nat.{ne_of_lt}
use native.Mathlib.Omega.{arith}
use lib.ListN.{length, get_or, set, length-set}
use lib.Seq.{get_or-set_same, get_or-set_other, ext_get_or}
use borrow.Author.Count.{below_more}
use Rattle.lists.specs.Counted.{each}
use Rattle.lists.proofs.Counted.{length_up_to, up_to_at}

-- an element by any default
pub any : {A : Type 0} (l : List A) (i : ℕ) (d e : A) → i < length l → get_or l i d ≡ get_or l i e
any [] i d e h = absurd (omega arith)
any (x ∷ xs) zero d e h = refl
any (x ∷ xs) (suc i) d e h = any xs i d e (omega arith)

module _ {A : Type 0} (d : A) where
  pub each_at : (f : ℕ → A) (n k : ℕ) → k < n → get_or (each f n) k d ≡ f k
  each_at f n k h =
      let e : length (each f k) + 0 ≡ k = omega (arith, length_up_to f k) in
      subst (λ m. get_or (each f n) m d ≡ f k) e (up_to_at (λ i. f i ∷ []) d n k 0 h (omega arith))

  -- the buffer has the places of a list, and the list's elements below k
  pub record Filled (l out : List A) (k : ℕ) : Type 0 where
    pub count : length out ≡ length l
    pub same : (i : ℕ) → i < k → get_or out i d ≡ get_or l i d

  pub starts : (l out : List A) → length out ≡ length l → Filled l out 0
  starts l out e = record { count = e; same = λ i h. absurd (omega arith) }

  pub more : (l out : List A) (k : ℕ) (v : A) → Filled l out k → k < length l → v ≡ get_or l k d → Filled l (set out k v) (k + 1)
  more l out k v m h e =
      let c = m.count in
      record {
        count = length-set out k v ∙ c;
        same = below_more (λ i. get_or (set out k v) i d ≡ get_or l i d) k
            (λ i b. get_or-set_other out k i v d (ne_of_lt b) ∙ m.same i b)
            (get_or-set_same out k v d (omega arith) ∙ e);
      }

  pub whole : (l out : List A) (k : ℕ) → Filled l out k → length l ≤ k → out ≡ l
  whole l out k m h = let c = m.count in ext_get_or d out l c (λ i b. m.same i (omega arith))
