-- Numbers cut to their room's limit: a test that fails from the limit on does not see the cut. Assumes nothing.
use Prim.Native.Nat.{ℕ, zero, suc, ◌+◌, ◌-◌, ◌^◌, ◌≤◌, ◌<◌, min}
use mathlib.Core.Path.{◌≡◌, refl, sym, ◌∙◌}
use mathlib.Core.Bool.{Bool, true, false, ◌&&◌, true≢false, false≢true}
use mathlib.Core.List.{List, [], ◌∷◌}
use native.Mathlib.Nat.{min-eq_left, min-eq_right, le_of_lt, pow-le-pow_right}
use native.Mathlib.Omega.{arith}
use lib.Dec.{leb}
use lib.ListN.{length, get_or}
use borrow.Author.Tests.{leb-true, leb-false, lt-leb}
use Rattle.lists.specs.Counted.{within, all_in, ascending}
use Rattle.lists.proofs.Choice.{and_l, and_r, and_false}
use Rattle.lists.proofs.Counted.{within_at}
use Rattle.literals.specs.Literals.{levels_ok}
use Rattle.accept.specs.Accepted.{depth_ok, colors_ok}
use Rattle.fields.specs.Fields.{field_at, number_of, number_up_to, is_line, line_numbers, cut}
use Rattle.fields.specs.declared.Field.{Field}
use Rattle.fields.specs.declared.Field.TheVariants.{Blank, Number, Bad}

-- ---- a test that fails from the limit on does not see the cut, and what passes it was not cut

module _ (f : ℕ → Bool) (limit : ℕ) (high : (i : ℕ) → limit ≤ i → f i ≡ false) where
  cut_by : (i : ℕ) (t : Bool) → leb limit i ≡ t → (f (min i limit) ≡ f i) × (f i ≡ true → min i limit ≡ i)
  cut_by i true e =
      let h : limit ≤ i = leb-true limit i e in
      (rw (min-eq_right h) (high limit (omega arith) ∙ sym (high i h)), λ t. absurd (true≢false (sym t ∙ high i h)))
  cut_by i false e = let h : min i limit ≡ i = min-eq_left (le_of_lt (leb-false limit i e)) in (rw h refl, λ t. h)

  pub test_cut : (i : ℕ) → f (min i limit) ≡ f i
  test_cut i = (cut_by i (leb limit i) refl).0

  pub test_kept : (i : ℕ) → f i ≡ true → min i limit ≡ i
  test_kept i = (cut_by i (leb limit i) refl).1

  pub all_cut : (vs : List ℕ) → all_in f (cut limit vs) ≡ all_in f vs
  unfolding cut all_in
  all_cut [] = refl
  all_cut (v ∷ vs) = rw (test_cut v, all_cut vs) refl

  pub all_kept : (vs : List ℕ) → all_in f vs ≡ true → cut limit vs ≡ vs
  unfolding cut all_in
  all_kept [] e = refl
  all_kept (v ∷ vs) e = rw (test_kept v (and_l (f v) (all_in f vs) e), all_kept vs (and_r (f v) (all_in f vs) e)) refl

pub get_d_cut : (limit : ℕ) (vs : List ℕ) (i : ℕ) → get_or (cut limit vs) i 0 ≡ min (get_or vs i 0) limit
unfolding cut
get_d_cut limit [] i = sym (min-eq_left (omega arith))
get_d_cut limit (v ∷ vs) zero = refl
get_d_cut limit (v ∷ vs) (suc i) = get_d_cut limit vs i

-- a line of numbers up to a limit is not cut to it
pub line_kept : (limit : ℕ) (s : List ℕ) (at k : ℕ) → is_line limit s at k ≡ true → cut limit (line_numbers s at k) ≡ line_numbers s at k
unfolding is_line line_numbers cut
line_kept limit s at zero e = refl
line_kept limit s at (suc k) e =
    let f = number_up_to limit (field_at s at) in
    let rest = is_line limit s (at + 8) k in
    rw (number (field_at s at) (and_l f rest e), line_kept limit s (at + 8) k (and_r f rest e)) refl
  where
    number : (f : Field) → number_up_to limit f ≡ true → min (number_of f) limit ≡ number_of f
    number Blank t = absurd (false≢true t)
    number (Number v) t = min-eq_left (leb-true v limit t)
    number Bad t = absurd (false≢true t)

-- ---- colours

abbrev level_test : ℕ → ℕ → Bool
level_test bd c = leb c (2 ^ bd - 1)

module _ (bd : ℕ) (cs : List ℕ) (d : depth_ok bd ≡ true) where
  high_level : (i : ℕ) → 65535 ≤ i → level_test bd i ≡ false
  unfolding depth_ok
  high_level i h =
      let two : 0 < 2 = omega arith in
      let k : 2 ^ bd ≤ 2 ^ 12 = pow-le-pow_right two (within_at 8 12 bd d).1 in
      lt-leb i (2 ^ bd - 1) (omega arith)

  colors_by : (t : Bool) → all_in (level_test bd) cs ≡ t → colors_ok bd (cut 65535 cs) ≡ colors_ok bd cs
  unfolding colors_ok levels_ok
  colors_by true e = rw (all_kept (level_test bd) 65535 high_level cs e) refl
  colors_by false e =
      rw (all_cut (level_test bd) 65535 high_level cs, e, and_false (ascending (cut 65535 cs)), and_false (ascending cs))
      (and_false (within 2 8 (length (cut 65535 cs))) ∙ sym (and_false (within 2 8 (length cs))))

  pub colors_cut : colors_ok bd (cut 65535 cs) ≡ colors_ok bd cs
  colors_cut = colors_by (all_in (level_test bd) cs) refl

  pub colors_kept : colors_ok bd cs ≡ true → cut 65535 cs ≡ cs
  unfolding colors_ok levels_ok
  colors_kept e =
      let l = all_in (level_test bd) cs in
      all_kept (level_test bd) 65535 high_level cs
      (and_r (ascending cs) l (and_r (within 2 8 (length cs)) (ascending cs && l) e))

pub colors_few : (bd : ℕ) (cs : List ℕ) → colors_ok bd cs ≡ true → length cs ≤ 8
unfolding colors_ok
colors_few bd cs e = (within_at 2 8 (length cs) (and_l (within 2 8 (length cs)) (levels_ok bd cs) e)).1
