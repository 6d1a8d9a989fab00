-- The literal colours one by one. Assumes nothing.
use mathlib.Core.Path.{◌≡◌, refl, sym, ap, ◌∙◌}
use mathlib.Core.List.{List, []}
use Prim.Native.Nat.{ℕ, suc, ◌+◌, ◌-◌, ◌*◌, ◌%◌, ◌^◌, ◌<◌, ◌≤◌, min}
use native.Mathlib.Omega.{arith}
use lib.ListN.{length}
use lib.Pow.{pow_mono}
use Rattle.lists.proofs.Rest.{one_left, none_left}
use Rattle.literals.specs.Literals.{cut_bits}
use Rattle.literals.proofs.Widths.{cut_bits_le}
use Rattle.reader.specs.Reader.{Got, got, fault, after, due}
use Rattle.read_colors.specs.Colors.{insert, read_cache, read_steps, read_more, read_literals, read_sized, read_colors}
use Rattle.read_colors.specs.Held.{colors_in}
use Rattle.read_colors.specs.declared.held.Held.{Held}

-- ---- steps

-- what is left to read gives G, the whole
pub record StepsInv (n bd : ℕ) (G : Got (List ℕ)) (held : Held) (ws : List ℕ) (b last : ℕ) : Type 0 where
  pub few : held.count ≤ n
  pub bits : b ≤ 12
  pub top : last ≤ 2 ^ bd - 1
  pub reads : read_steps bd b last (n - held.count) (colors_in held) ws ≡ G

module _ (n bd : ℕ) (G : Got (List ℕ)) (held : Held) (ws : List ℕ) (b last : ℕ) (v : StepsInv n bd G held ws b last) where
  pub steps_end : n ≤ held.count → G ≡ got (colors_in held) ws
  unfolding read_steps
  steps_end h = sym v.reads ∙ rw (none_left n held.count h) refl

  module _ (some : held.count < n) (g : Got ℕ) (k : due 1 b (min (2 ^ b) (2 ^ bd - 1 - last)) ws ≡ g) where
    steps_whole : G ≡ after g
        (λ s. read_steps bd (cut_bits bd b (last + 1 + s)) (last + 1 + s) (n - (held.count + 1)) (insert (last + 1 + s) (colors_in held)))
    unfolding read_steps
    steps_whole =
        sym v.reads
        ∙ rw (one_left n held.count some)
        (ap (λ (g : Got ℕ). after g (λ s. read_steps bd (cut_bits bd b (last + 1 + s)) (last + 1 + s) (n - (held.count + 1)) (insert (last + 1 + s)
        (colors_in held)))) k)

  pub steps_fault : held.count < n → (f : ℕ) → due 1 b (min (2 ^ b) (2 ^ bd - 1 - last)) ws ≡ fault f → G ≡ fault f
  steps_fault some f k = steps_whole some (fault f) k

  pub steps_turn : held.count < n → (s : ℕ) (vs : List ℕ) → due 1 b (min (2 ^ b) (2 ^ bd - 1 - last)) ws ≡ got s vs
      → s < min (2 ^ b) (2 ^ bd - 1 - last) → (r : Held) → r.count ≡ held.count + 1 → (last' b' : ℕ) → last' ≡ last + 1 + s → b' ≡ cut_bits bd b last'
      → colors_in r ≡ insert last' (colors_in held) → StepsInv n bd G r vs b' last'
  steps_turn some s vs k less r one last' b' p q are = record {
    few = omega arith;
    bits = rw q (omega (arith, v.bits, cut_bits_le bd b last'));
    top = omega arith;
    reads = rw (are, one, q, p) (sym (steps_whole some (got s vs) k));
  }

-- ---- what follows the first literal

module _ (bd c n : ℕ) (held : Held) (ws : List ℕ) where
  pub more_none : n ≤ held.count → read_more bd c (n - held.count) (colors_in held) ws ≡ got (colors_in held) ws
  unfolding read_more
  more_none h = rw (none_left n held.count h) refl

  module _ (some : held.count < n) (g : Got ℕ) (k : due 1 2 4 ws ≡ g) where
    pub more_whole : read_more bd c (n - held.count) (colors_in held) ws
        ≡ after g (λ v. read_steps bd (v + (bd - 3)) c (n - held.count) (colors_in held))
    unfolding read_more
    more_whole =
        rw (one_left n held.count some)
        (ap (λ (g : Got ℕ). after g (λ v. read_steps bd (v + (bd - 3)) c (suc (n - (held.count + 1))) (colors_in held))) k)

-- ---- literals

pub levels : (bd : ℕ) → bd ≤ 12 → 1 * 2 ^ bd % 2 ^ 32 ≡ 2 ^ bd
levels bd h = omega (arith, pow_mono {i = bd} {j = 12} h)

module _ (bd n : ℕ) (held : Held) (ws : List ℕ) where
  pub literals_none : n ≤ held.count → read_literals bd (n - held.count) (colors_in held) ws ≡ got (colors_in held) ws
  unfolding read_literals
  literals_none h = rw (none_left n held.count h) refl

  module _ (some : held.count < n) (g : Got ℕ) (k : due 1 bd (2 ^ bd) ws ≡ g) where
    pub literals_whole : read_literals bd (n - held.count) (colors_in held) ws
        ≡ after g (λ c. read_more bd c (n - (held.count + 1)) (insert c (colors_in held)))
    unfolding read_literals
    literals_whole =
        rw (one_left n held.count some)
        (ap (λ (g : Got ℕ). after g (λ c. read_more bd c (n - (held.count + 1)) (insert c (colors_in held)))) k)

-- ---- size, cache and literals

module _ (bd : ℕ) (cache ws : List ℕ) (g : Got ℕ) (k : due 3 0 7 ws ≡ g) where
  pub colors_whole : read_colors bd cache ws ≡ after g (λ s. read_sized bd cache (s + 2))
  unfolding read_colors
  colors_whole = ap (λ (g : Got ℕ). after g (λ s. read_sized bd cache (s + 2))) k

module _ (bd n : ℕ) (cache ws : List ℕ) (g : Got (List ℕ)) (k : read_cache cache n [] ws ≡ g) where
  pub sized_whole : read_sized bd cache n ws ≡ after g (λ cs. read_literals bd (n - length cs) cs)
  unfolding read_sized
  sized_whole = ap (λ (g : Got (List ℕ)). after g (λ cs. read_literals bd (n - length cs) cs)) k
