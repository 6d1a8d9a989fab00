-- Parts of a list: lent and back with other elements, and lists in which one part stands behind the other. Assumes nothing.
use mathlib.Core.Path.{◌≡◌, refl, sym, ap, ◌∙◌}
use mathlib.Core.List.{List, [], ◌∷◌, ◌++◌, append_assoc}
use mathlib.Core.Logic.{⊎_elim}
use Prim.Native.Nat.{ℕ, zero, suc, ◌+◌, ◌-◌, ◌*◌, ◌≤◌, ◌<◌}
use native.Mathlib.Nat.{eq-or-lt_of_le, le_of_suc-le-suc}
use native.Mathlib.Numerals.{add-one}
use native.Mathlib.Omega.{arith}
use lib.ListN.{length, take, drop, length-append, length-drop, take-append-drop}
use lib.Seq.{take_at, drop_at, drop-drop, take-take, take-nil, take-add, length-take-le}
use borrow.Rule.Slice.PartMut.{post_of, put_mid}
use Rattle.lists.specs.Counted.{part, up_to, total, part_of}

-- ---- a part that is back
module _ {A : Type 0} (from to : ℕ) (l new : List A) (up : from ≤ to) (inside : to ≤ length l) (count : length new ≡ to - from) where
  before : length (take from l) ≡ from
  before = length-take-le from l (omega arith)

  pub put_part : part (put_mid from (to - from) l new) from (to - from) ≡ new
  put_part =
      ap (take (to - from)) (drop_at (take from l) (new ++ post_of from (to - from) l) from before)
      ∙ take_at new (post_of from (to - from) l) (to - from) count

  -- up to its end it stands behind what was in front of it
  pub put_front : take to (put_mid from (to - from) l new) ≡ take from l ++ new
  put_front =
      ap (take to) (sym (append_assoc (take from l) new (post_of from (to - from) l)))
      ∙ take_at (take from l ++ new) (post_of from (to - from) l) to (omega (arith, before, count, length-append (take from l) new))

pub length_part : {A : Type 0} (l : List A) (at size : ℕ) → at + size ≤ length l → length (part l at size) ≡ size
length_part l at size h = length-take-le size (drop at l) (simp length-drop (omega arith))

-- ---- parts that end in the front, or begin behind it
from_front : {A : Type 0} (a size at : ℕ) (l : List A) → a + size ≤ at → part (take at l) a size ≡ part l a size
from_front zero size at l h = take-take size at l (omega arith)
from_front (suc a) size at [] h = rw (take-nil at) refl
from_front (suc a) size zero (x ∷ xs) h = absurd (omega arith)
from_front (suc a) size (suc at) (x ∷ xs) h = from_front a size at xs (omega arith)

-- the front tells the parts in it
pub front_same : {A : Type 0} (a size at : ℕ) (l m : List A) → a + size ≤ at → take at l ≡ take at m → part l a size ≡ part m a size
front_same a size at l m h e = sym (from_front a size at l h) ∙ rw e (from_front a size at m h)

-- what stands behind a place tells what stands behind a later one
pub behind_same : {A : Type 0} (at size : ℕ) (l m : List A) → drop at l ≡ drop at m → drop (at + size) l ≡ drop (at + size) m
behind_same at size l m e = sym (drop-drop size at l) ∙ rw e (drop-drop size at m)

-- ---- one behind the other, each as long as f says
module _ (f : ℕ → ℕ) where
  pub total_more : (n : ℕ) → total f (n + 1) ≡ total f n + f n
  unfolding total
  total_more n = rw add-one refl

  pub total_within : (i n : ℕ) → i < n → total f i + f i ≤ total f n
  unfolding total
  total_within i zero h = absurd (omega arith)
  total_within i (suc n) h =
      let deeper : i < n → total f i + f i ≤ total f n = total_within i n in
      ⊎_elim (λ e. rw e (omega arith)) (λ l. omega (arith, deeper l)) (eq-or-lt_of_le (le_of_suc-le-suc h))

  pub total_most : (most n : ℕ) → ((i : ℕ) → i < n → f i ≤ most) → total f n ≤ most * n
  unfolding total
  total_most most zero g = omega arith
  total_most most (suc n) g = omega (arith, g n (omega arith), total_most most n (λ i h. g i (omega arith)))

  -- all of them are the list up to the total
  parts_front : {A : Type 0} (l : List A) (n : ℕ) → up_to (part_of f l) n ≡ take (total f n) l
  unfolding up_to total
  parts_front l zero = refl
  parts_front l (suc n) = rw (parts_front l n) (sym (take-add (total f n) (f n) l))

  -- so a list is they and what stands behind them
  module _ {A : Type 0} (l old : List A) (n : ℕ) where
    pub parts_then : drop (total f n) l ≡ drop (total f n) old → l ≡ up_to (part_of f l) n ++ drop (total f n) old
    parts_then e = sym (rw (parts_front l n, ← e) (take-append-drop (total f n) l))

    pub behind_parts : total f n ≤ length l → l ≡ up_to (part_of f l) n ++ drop (total f n) old
        → drop (total f n) l ≡ drop (total f n) old
    behind_parts h e =
        ap (drop (total f n)) (e ∙ ap (λ (z : List A). z ++ drop (total f n) old) (parts_front l n))
        ∙ drop_at (take (total f n) l) (drop (total f n) old) (total f n) (length-take-le (total f n) l h)
