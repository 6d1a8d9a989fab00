-- One more value of a prediction, and the first n colours at an index below n. Assumes nothing.
use mathlib.Core.Path.{◌≡◌, refl, sym, ap, ◌∙◌}
use mathlib.Core.List.{List, [], ◌∷◌, ◌++◌, map, map-append}
use Prim.Native.Nat.{ℕ, suc, ◌+◌, ◌≤◌, ◌<◌}
use native.Mathlib.Numerals.{add-one}
use native.Mathlib.Omega.{arith}
use lib.Ieee.{Float, nan}
use lib.ListN.{length, take, drop, get_or, set, length-map}
use lib.Seq.{take-length, take-suc, drop-cons, set_at, append_snoc, length-take-le, get_or-take}
use Rattle.listing.specs.Listing.{values_of}

pub value_more : (f : ℕ → Float) (m : List ℕ) (v : List Float) (i : ℕ) → i < length m → length m ≤ length v
    → set (map f (take i m) ++ drop i v) i (f (get_or m i 0)) ≡ map f (take (i + 1) m) ++ drop (i + 1) v
value_more f m v i h g =
    let size : length (map f (take i m)) ≡ i = length-map (take i m) f ∙ length-take-le i m (omega arith) in
    let rest : drop i v ≡ get_or v i nan ∷ drop (suc i) v = drop-cons v i nan (omega arith) in
    rw (add-one, rest, take-suc m i 0 h)
    (set_at (map f (take i m)) (get_or v i nan) (drop (suc i) v) (f (get_or m i 0)) i size
    ∙ sym (append_snoc (map f (take i m)) (f (get_or m i 0)) (drop (suc i) v))
    ∙ ap (λ (l : List Float). l ++ drop (suc i) v) (sym (map-append f (take i m) (get_or m i 0 ∷ []))))

pub take_all : (m : List ℕ) → take (length m) m ≡ m
take_all m = take-length m

map_same : (f g : ℕ → Float) (m : List ℕ) → ((i : ℕ) → i < length m → f (get_or m i 0) ≡ g (get_or m i 0)) → map f m ≡ map g m
map_same f g [] h = refl
map_same f g (x ∷ xs) h = rw (h 0 (omega arith), map_same f g xs (λ i k. h (suc i) (omega arith))) refl

-- places past n are not read
pub values_first : (colors m : List ℕ) (n : ℕ) → ((i : ℕ) → i < length m → get_or m i 0 < n) → values_of (take n colors) m ≡ values_of colors m
values_first colors m n h = map_same _ _ m (λ i k. rw (get_or-take n colors (get_or m i 0) 0 (h i k)) refl)
