-- One word more behind those that a hash has.
use Rattle.std.proofs.Common.{◌≡◌, refl, ℕ, ◌+◌, ◌*◌, ◌%◌, List, [], ◌∷◌, ◌++◌}
use Rattle.replaying.specs.Hash.{hashed, Words}

pub hashed_more : (h : ℕ) (ws : List ℕ) (w : ℕ) → hashed h (ws ++ w ∷ []) ≡ (hashed h ws * 65599 + w) % 4294967291
unfolding hashed
hashed_more h [] w = refl
hashed_more h (v ∷ ws) w = hashed_more ((h * 65599 + v) % 4294967291) ws w

pub words_more : {A : Type 0} (R : A → ℕ → Type 0) (xs : List A) (ws : List ℕ) (x : A) (w : ℕ)
    → Words R xs ws → R x w → Words R (xs ++ x ∷ []) (ws ++ w ∷ [])
unfolding Words
words_more R [] [] x w _ r = (r, tt)
words_more R [] (_ ∷ _) x w b r = elim b [ ]
words_more R (_ ∷ _) [] x w b r = elim b [ ]
words_more R (y ∷ xs) (v ∷ ws) x w all r = (all.0, words_more R xs ws x w all.1 r)
