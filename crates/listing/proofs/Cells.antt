-- A cell's word tells its index, for any rule for three neighbours and any kind of word. Assumes nothing.
use mathlib.Core.Path.{◌≡◌, refl}
use mathlib.Core.Bool.{Bool, true, false, cond}
use mathlib.Core.List.{List}
use Prim.Native.Nat.{ℕ, zero, suc, ◌+◌, ◌<◌}
use lib.Dec.{eqb}
use Rattle.context.specs.Map.{cell}
use Rattle.context.specs.Order.{Around, around, rank_of}
use Rattle.literals.specs.Words.{word}
use Rattle.emit.specs.Map.{ranked_word, cell_word}
use Rattle.context.proofs.Order.{rank_injective}
use Rattle.literals.proofs.Words.{word_injective}

word_tells : (b : Bool) (kind n k : ℕ) (a : Around) (i j : ℕ) → i < n → j < n
    → cond b (word 2 n i) (word kind k (rank_of a n i)) ≡ cond b (word 2 n j) (word kind k (rank_of a n j)) → i ≡ j
word_tells true kind n k a i j g h e = word_injective 2 n n i j refl e
word_tells false kind n k a i j g h e = rank_injective a n i j g h (word_injective kind k k _ _ refl e)

-- two maps agree at the neighbours of a cell
pub record Agree (w : ℕ) (m m' : List ℕ) (y x : ℕ) : Type 0 where
  pub left : (k : ℕ) → x ≡ suc k → cell m w y k ≡ cell m' w y k
  pub top : (k : ℕ) → y ≡ suc k → cell m w k x ≡ cell m' w k x
  pub diag : (k j : ℕ) → y ≡ suc k → x ≡ suc j → cell m w k j ≡ cell m' w k j

module _ (kind : ℕ) (three : ℕ → ℕ → ℕ → Around) (w : ℕ) (m m' : List ℕ) where
  pub around_agree : (y x : ℕ) → Agree w m m' y x → around three m w y x ≡ around three m' w y x
  unfolding around
  around_agree zero zero g = refl
  around_agree zero (suc x) g = rw (g.left x refl)
  around_agree (suc y) zero g = rw (g.top y refl)
  around_agree (suc y) (suc x) g = rw (g.left x refl, g.top y refl, g.diag y x refl refl)

  -- its word tells its index
  pub cell_tells : (n y x : ℕ) → cell m w y x < n → cell m' w y x < n → Agree w m m' y x
      → cell_word kind three n m w y x ≡ cell_word kind three n m' w y x → cell m w y x ≡ cell m' w y x
  unfolding cell_word ranked_word
  cell_tells n y x g h a e =
      let q : around three m w y x ≡ around three m' w y x = around_agree y x a in
      word_tells (eqb (y + x) 0) kind n _ (around three m' w y x) _ _ g h (rw q at e)
