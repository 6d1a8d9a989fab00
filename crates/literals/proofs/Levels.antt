-- What `levels_ok` says of the colours, one by one. Assumes nothing.
use mathlib.Core.Path.{◌≡◌}
use mathlib.Core.Bool.{true}
use mathlib.Core.List.{List, ◌∷◌}
use Prim.Native.Nat.{ℕ, ◌-◌, ◌^◌, ◌≤◌, ◌<◌}
use lib.Dec.{leb}
use lib.ListN.{length, get_or}
use borrow.Author.Tests.{leb-true}
use Rattle.lists.specs.Counted.{all_in, ascending}
use Rattle.lists.proofs.Ascending.{ascends_tail}
use Rattle.lists.proofs.Choice.{and_l, and_r, and_both}
use Rattle.lists.proofs.Counted.{all_in_at}
use Rattle.literals.specs.Literals.{levels_ok}

module _ (bd : ℕ) where
  -- the two halves of the test, and the whole from them
  pub levels_ascend : (cs : List ℕ) → levels_ok bd cs ≡ true → ascending cs ≡ true
  unfolding levels_ok
  levels_ascend cs e = and_l (ascending cs) (all_in (λ c. leb c (2 ^ bd - 1)) cs) e

  pub levels_within : (cs : List ℕ) → levels_ok bd cs ≡ true → all_in (λ c. leb c (2 ^ bd - 1)) cs ≡ true
  unfolding levels_ok
  levels_within cs e = and_r (ascending cs) (all_in (λ c. leb c (2 ^ bd - 1)) cs) e

  pub levels_both : (cs : List ℕ) → ascending cs ≡ true → all_in (λ c. leb c (2 ^ bd - 1)) cs ≡ true → levels_ok bd cs ≡ true
  unfolding levels_ok
  levels_both cs a t = and_both (ascending cs) (all_in (λ c. leb c (2 ^ bd - 1)) cs) a t

  pub level_at : (cs : List ℕ) → levels_ok bd cs ≡ true → (i : ℕ) → i < length cs → get_or cs i 0 ≤ 2 ^ bd - 1
  level_at cs e i h = leb-true _ _ (all_in_at (λ c. leb c (2 ^ bd - 1)) cs (levels_within cs e) i h)

  pub levels_tail : (c : ℕ) (cs : List ℕ) → levels_ok bd (c ∷ cs) ≡ true → levels_ok bd cs ≡ true
  unfolding all_in
  levels_tail c cs e =
      levels_both cs (ascends_tail c cs (levels_ascend (c ∷ cs) e))
      (and_r (leb c (2 ^ bd - 1)) (all_in (λ d. leb d (2 ^ bd - 1)) cs) (levels_within (c ∷ cs) e))
