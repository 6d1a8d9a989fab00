-- The cache bits one by one. Assumes nothing.
use mathlib.Core.Path.{◌≡◌, refl, sym, ap, ◌∙◌}
use mathlib.Core.Bool.{cond}
use mathlib.Core.List.{List, [], ◌∷◌}
use Prim.Native.Nat.{ℕ, ◌+◌, ◌<◌, ◌≤◌}
use native.Mathlib.Numerals.{add-one}
use native.Mathlib.Omega.{arith}
use lib.Dec.{eqb}
use lib.ListN.{length, get_or, drop, drop_of_length-le}
use lib.Seq.{drop-cons}
use borrow.Author.Tests.{eq-eqb, ne_eqb, le-leb, lt-leb}
use Rattle.reader.specs.Reader.{Got, got, fault, after, ret, due}
use Rattle.read_colors.specs.Colors.{insert, read_bit, read_cache}
use Rattle.read_colors.specs.Held.{colors_in}
use Rattle.read_colors.specs.declared.held.Held.{Held}
use Rattle.read_colors.proofs.Inserted.{length_held}

module _ (e : ℕ) (cs vs : List ℕ) (g : Got ℕ) (k : due 1 1 2 vs ≡ g) where
  bit_read : read_bit e cs vs ≡ after g (λ b. ret (cond (eqb b 1) (insert e cs) cs))
  unfolding read_bit
  bit_read = ap (λ (g : Got ℕ). after g (λ b. ret (cond (eqb b 1) (insert e cs) cs))) k

pub bit_fault : (e : ℕ) (cs vs : List ℕ) (f : ℕ) → due 1 1 2 vs ≡ fault f → read_bit e cs vs ≡ fault f
bit_fault e cs vs f k = bit_read e cs vs (fault f) k

module _ (e : ℕ) (cs vs ws : List ℕ) (b : ℕ) (k : due 1 1 2 vs ≡ got b ws) where
  pub bit_one : b ≡ 1 → read_bit e cs vs ≡ got (insert e cs) ws
  bit_one s = rw (eq-eqb b 1 s) at (bit_read e cs vs (got b ws) k)

  pub bit_none : (b ≡ 1 → ⊥) → read_bit e cs vs ≡ got cs ws
  bit_none s = rw (ne_eqb b 1 s) at (bit_read e cs vs (got b ws) k)

-- ---- all entries

cache_full : (es cs : List ℕ) (n : ℕ) (ws : List ℕ) → n ≤ length cs → read_cache es n cs ws ≡ got cs ws
unfolding read_cache
cache_full [] cs n ws h = refl
cache_full (e ∷ es) cs n ws h = rw (le-leb n (length cs) h) refl

cache_next : (e : ℕ) (es cs : List ℕ) (n : ℕ) (vs : List ℕ) (g : Got (List ℕ)) → length cs < n
    → read_bit e cs vs ≡ g → read_cache (e ∷ es) n cs vs ≡ after g (read_cache es n)
unfolding read_cache
cache_next e es cs n vs g h k = rw (lt-leb n (length cs) h) (ap (λ (g : Got (List ℕ)). after g (read_cache es n)) k)

-- what is left to read gives the whole, G
pub record CacheInv (G : Got (List ℕ)) (cache : List ℕ) (n : ℕ) (held : Held) (ws : List ℕ) (i : ℕ) : Type 0 where
  pub few : held.count ≤ n
  pub reads : read_cache (drop i cache) n (colors_in held) ws ≡ G

module _ (G : Got (List ℕ)) (cache : List ℕ) (n : ℕ) (held : Held) (ws : List ℕ) (i : ℕ) (v : CacheInv G cache n held ws i) where
  pub cache_stop : n ≤ held.count → G ≡ got (colors_in held) ws
  cache_stop h = sym v.reads ∙ cache_full (drop i cache) (colors_in held) n ws (omega (arith, length_held held))

  pub cache_past : length cache ≤ i → G ≡ got (colors_in held) ws
  unfolding read_cache
  cache_past h = sym v.reads ∙ rw (drop_of_length-le cache {i = i} h) refl

  module _ (more : i < length cache) (some : held.count < n) (g : Got (List ℕ)) (bit : read_bit (get_or cache i 0) (colors_in held) ws ≡ g) where
    whole : G ≡ after g (read_cache (drop (i + 1) cache) n)
    whole =
        let split : drop i cache ≡ get_or cache i 0 ∷ drop (i + 1) cache = rw (drop-cons cache i 0 more, add-one) refl in
        sym v.reads ∙ rw split (cache_next (get_or cache i 0) (drop (i + 1) cache) (colors_in held) n ws g (omega (arith, length_held held)) bit)

  pub cache_fault : i < length cache → held.count < n → (f : ℕ) → read_bit (get_or cache i 0) (colors_in held) ws ≡ fault f → G ≡ fault f
  cache_fault more some f bit = whole more some (fault f) bit

  pub cache_turn : i < length cache → held.count < n → (r : Held) (vs : List ℕ) → read_bit (get_or cache i 0) (colors_in held) ws ≡ got (colors_in r) vs
      → r.count ≤ held.count + 1 → CacheInv G cache n r vs (i + 1)
  cache_turn more some r vs bit few = record { few = omega arith; reads = sym (whole more some (got (colors_in r) vs) bit) }
