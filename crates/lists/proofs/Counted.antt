-- What `all_below` and `all_in` say at one place, and lengths of `up_to`. Assumes nothing.
use mathlib.Core.Path.{◌≡◌, refl, ◌∙◌}
use mathlib.Core.Bool.{Bool, true, false, true≢false}
use mathlib.Core.List.{List, [], ◌∷◌, ◌++◌}
use mathlib.Core.Logic.{⊎_elim}
use Prim.Native.Nat.{ℕ, zero, suc, ◌+◌, ◌<◌, ◌≤◌}
use native.Mathlib.Nat.{eq-or-lt_of_le, le_of_suc-le-suc}
use native.Mathlib.Numerals.{add-one}
use native.Mathlib.Omega.{arith}
use lib.Dec.{leb}
use borrow.Author.Tests.{leb-true}
use lib.ListN.{length, get_or, length-append, get_or-append}
use lib.Seq.{get_or-append-add}
use Rattle.lists.specs.Counted.{within, up_to, all_below, all_in, bit}
use Rattle.lists.proofs.Choice.{and_l, and_r, and_both}

pub within_at : (a b x : ℕ) → within a b x ≡ true → (a ≤ x) × (x ≤ b)
within_at a b x e = (leb-true a x (and_l (leb a x) (leb x b) e), leb-true x b (and_r (leb a x) (leb x b) e))

pub all_below_at : (f : ℕ → Bool) (n : ℕ) → all_below f n ≡ true → (i : ℕ) → i < n → f i ≡ true
unfolding all_below
all_below_at f zero e i h = absurd (omega arith)
all_below_at f (suc n) e i h =
    ⊎_elim (λ p. rw p (and_l (f n) (all_below f n) e)) (all_below_at f n (and_r (f n) (all_below f n) e) i)
    (eq-or-lt_of_le (le_of_suc-le-suc h))

pub all_below_of : (f : ℕ → Bool) (n : ℕ) → ((i : ℕ) → i < n → f i ≡ true) → all_below f n ≡ true
unfolding all_below
all_below_of f zero g = refl
all_below_of f (suc n) g = and_both (f n) (all_below f n) (g n (omega arith)) (all_below_of f n (λ i h. g i (omega arith)))

-- one number at which the test fails
pub all_below_not : (f : ℕ → Bool) (n i : ℕ) → i < n → f i ≡ false → all_below f n ≡ false
all_below_not f n i h e = go (all_below f n) (λ t. all_below_at f n t i h)
  where
    go : (b : Bool) → (b ≡ true → f i ≡ true) → b ≡ false
    go false k = refl
    go true k = let z : true ≡ false = cc (k refl) in absurd (true≢false z)

pub all_below_same : (f g : ℕ → Bool) (n : ℕ) → ((i : ℕ) → f i ≡ g i) → all_below f n ≡ all_below g n
unfolding all_below
all_below_same f g zero e = refl
all_below_same f g (suc n) e = rw (e n, all_below_same f g n e) refl

pub all_in_at : (f : ℕ → Bool) (l : List ℕ) → all_in f l ≡ true → (i : ℕ) → i < length l → f (get_or l i 0) ≡ true
unfolding all_in
all_in_at f [] e i h = absurd (omega arith)
all_in_at f (x ∷ xs) e zero h = and_l (f x) (all_in f xs) e
all_in_at f (x ∷ xs) e (suc i) h = all_in_at f xs (and_r (f x) (all_in f xs) e) i (omega arith)

pub bit_most : (b : Bool) → bit b ≤ 1
bit_most true = omega arith
bit_most false = omega arith

pub bit_injective : (a b : Bool) → bit a ≡ bit b → a ≡ b
bit_injective true true e = refl
bit_injective true false e = absurd (omega arith)
bit_injective false true e = absurd (omega arith)
bit_injective false false e = refl

-- one word for each number: as many words
pub length_up_to : {A : Type 0} (g : ℕ → A) (n : ℕ) → length (up_to (λ i. g i ∷ []) n) ≡ n
unfolding up_to
length_up_to g zero = refl
length_up_to g (suc n) = omega (arith, length-append (up_to (λ i. g i ∷ []) n) (g n ∷ []), length_up_to g n)

pub up_to_more : {A : Type 0} (f : ℕ → List A) (n : ℕ) → up_to f (n + 1) ≡ up_to f n ++ f n
unfolding up_to
up_to_more f n = rw add-one refl

pub length_more : {A : Type 0} (f : ℕ → List A) (n : ℕ) → length (up_to f (n + 1)) ≡ length (up_to f n) + length (f n)
unfolding up_to
length_more f n = rw add-one (length-append (up_to f n) (f n))

pub up_to_longer : {A : Type 0} (f : ℕ → List A) (m n : ℕ) → m ≤ n → length (up_to f m) ≤ length (up_to f n)
unfolding up_to
up_to_longer f m zero h = let e : m ≡ 0 = omega arith in rw e (omega arith)
up_to_longer f m (suc n) h =
    let deeper : m ≤ n → length (up_to f m) ≤ length (up_to f n) = up_to_longer f m n in
    ⊎_elim (λ e. rw e (omega arith))
    (λ l. omega (arith, deeper (le_of_suc-le-suc l), length-append (up_to f n) (f n)))
    (eq-or-lt_of_le h)

-- place k of piece m
pub up_to_at : {A : Type 0} (f : ℕ → List A) (d : A) (n m k : ℕ) → m < n → k < length (f m)
    → get_or (up_to f n) (length (up_to f m) + k) d ≡ get_or (f m) k d
unfolding up_to
up_to_at f d zero m k h l = absurd (omega arith)
up_to_at f d (suc n) m k h l =
    let deeper : m < n → get_or (up_to f n) (length (up_to f m) + k) d ≡ get_or (f m) k d = λ b. up_to_at f d n m k b l in
    ⊎_elim
    (λ e. rw e (get_or-append-add (up_to f n) (f n) k d))
    (λ b. get_or-append (up_to f n) (f n) d _ (omega (arith, l, length_more f m, up_to_longer f (m + 1) n (omega arith))) ∙ deeper b)
    (eq-or-lt_of_le (le_of_suc-le-suc h))
