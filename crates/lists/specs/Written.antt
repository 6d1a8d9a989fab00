-- A lent buffer after words were stored in it.
use Rattle.std.specs.Prelude.{ℕ, ◌+◌, List, [], ◌∷◌, ◌++◌, length, drop, set}

-- the buffer with the words in place of what stood from `at` on; all other places as they were
unfoldable pub written : {A : Type 0} → List A → ℕ → List A → List A
written old at [] = old
written old at (w ∷ ws) = written (set old at w) (at + 1) ws

-- the words from the front, the rest as it was
unfoldable pub front : {A : Type 0} → List A → List A → List A
front ws old = ws ++ drop (length ws) old
