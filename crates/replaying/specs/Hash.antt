-- The hash of words, and the words of values.
use Rattle.std.specs.Prelude.{ℕ, ◌+◌, ◌*◌, ◌%◌, List, [], ◌∷◌, ⊤}

-- h after the words, one after the other
unfoldable pub hashed : ℕ → List ℕ → ℕ
hashed h [] = h
hashed h (w ∷ ws) = hashed ((h * 65599 + w) % 4294967291) ws

-- a word for each value, in order, that `converts` allows
unfoldable pub Words : {A : Type 0} → (A → ℕ → Type 0) → List A → List ℕ → Type 0
Words converts [] [] = ⊤
Words converts [] (_ ∷ _) = ⊥
Words converts (_ ∷ _) [] = ⊥
Words converts (x ∷ xs) (w ∷ ws) = converts x w × Words converts xs ws
