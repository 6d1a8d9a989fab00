-- What is said of each number below a bound, and of each element of a list.
use Rattle.std.specs.Prelude.{ℕ, zero, suc, ◌+◌, Bool, true, false, ◌&&◌, ◌||◌, List, [], ◌∷◌, ◌++◌, eqb, ltb, leb, take, drop}

-- a ≤ x ≤ b
abbrev pub within : ℕ → ℕ → ℕ → Bool
within a b x = leb a x && leb x b

-- `len` elements from place `at` on
abbrev pub part : {A : Type 0} → List A → ℕ → ℕ → List A
part l at len = take len (drop at l)

-- f 0, f 1, .., f (n - 1), one behind the other
unfoldable pub up_to : {A : Type 0} → (ℕ → List A) → ℕ → List A
up_to f zero = []
up_to f (suc n) = up_to f n ++ f n

-- the list of f 0, f 1, .., f (n - 1)
abbrev pub each : {A : Type 0} → (ℕ → A) → ℕ → List A
each f n = up_to (λ i. f i ∷ []) n

-- f 0 + f 1 + .. + f (n - 1)
unfoldable pub total : (ℕ → ℕ) → ℕ → ℕ
total f zero = 0
total f (suc n) = total f n + f n

-- part i of a list whose parts stand one behind the other, each as long as `size` says
abbrev pub part_of : {A : Type 0} → (ℕ → ℕ) → List A → ℕ → List A
part_of size l i = part l (total size i) (size i)

-- the test passes at 0, 1, .., n - 1
unfoldable pub all_below : (ℕ → Bool) → ℕ → Bool
all_below f zero = true
all_below f (suc n) = f n && all_below f n

-- the test passes at each element
unfoldable pub all_in : (ℕ → Bool) → List ℕ → Bool
all_in f [] = true
all_in f (x ∷ xs) = f x && all_in f xs

-- x stands in the list
unfoldable pub elem : ℕ → List ℕ → Bool
elem x [] = false
elem x (y ∷ ys) = eqb x y || elem x ys

-- strictly ascending, all above c
unfoldable pub above : ℕ → List ℕ → Bool
above c [] = true
above c (d ∷ ds) = ltb c d && above d ds

unfoldable pub ascending : List ℕ → Bool
ascending [] = true
ascending (c ∷ cs) = above c cs

-- 1 for true
abbrev pub bit : Bool → ℕ
bit true = 1
bit false = 0
