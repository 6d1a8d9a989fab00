-- What is before the program stays there while more is read behind it. Assumes nothing.
use Rattle.std.proofs.Common.{◌≡◌, ℕ, zero, suc, ◌-◌, ◌≤◌, List, [], ◌∷◌, ◌++◌, length, take, drop, refl, ◌∙◌, arith}
use Rattle.std.proofs.lemmas.List.{length-drop, length-take-le, take_at}
use mathlib.Core.Path.{sym, subst}
use mathlib.Core.Bool.{Bool, true, false, not, ◌||◌, true≢false}
use mathlib.Core.Logic.{◌⊎◌, inl, inr}
use lib.Dec.{eqb, leb}
use lib.Seq.{take_all, take-take, take-nil}
use borrow.Author.Tests.{eqb-true, eqb-false, leb-true, le-leb}
use Rattle.lists.proofs.Choice.{or_true}
use Rattle.lists.specs.Written.{written}
use Rattle.lists.proofs.Written.{length_written, written_take}
use Rattle.window.specs.declared.Window.{Window}
use Rattle.window.specs.Window.{view, Inside, Holds}

-- the bytes from `at` on, as many as there are up to `end`
pub lent : (at end : ℕ) (l : List ℕ) → at ≤ end → take (end - at) (drop at l) ≡ drop at (take end l)
lent zero end l h = let e : end - 0 ≡ end = omega arith in rw e refl
lent (suc at) zero l h = absurd (omega arith)
lent (suc at) (suc end) [] h = take-nil (suc end - suc at)
lent (suc at) (suc end) (x ∷ xs) h =
    let e : suc end - suc at ≡ end - at = omega arith in
    rw e (lent at end xs (omega arith))

pub length_moved : (at end : ℕ) (l : List ℕ) → at ≤ end → end ≤ length l → length (drop at (take end l)) ≡ end - at
length_moved at end l h k = simp length-drop (omega (arith, length-take-le end l k))

module _ (w : Window) (old : List ℕ) (i : Inside w old) where
  abbrev count : ℕ
  count = w.end - w.at

  pub length_view : length (view w old) ≡ count
  length_view = length_moved w.at w.end old i.order i.end

  -- moved to the front, with something else behind it
  pub front_kept : (moved behind : List ℕ) (m : ℕ) → m ≡ count → moved ≡ written old 0 (view w old)
      → take count (take m moved ++ behind) ≡ view w old
  front_kept moved behind m e put =
      let fits : m ≤ length moved = rw put (omega (arith, length_written old 0 (view w old), i.order, i.end)) in
      let enough : length (view w old) ≤ length old = omega (arith, length_view, i.order, i.end) in
      rw (← e)
      (take_at (take m moved) behind m (length-take-le m moved fits)
      ∙ rw (put, e, ← length_view) (written_take old (view w old) enough))

  -- nothing was read: there was enough, or the input had ended
  same_by : (need : ℕ) (a b : Bool) → leb need count ≡ a → w.more ≡ b → a || not b ≡ true → (need ≤ count) ⊎ (w.more ≡ false)
  same_by need true b e f t = inl (leb-true need count e)
  same_by need false true e f t = absurd (true≢false (sym t))
  same_by need false false e f t = inr f

  pub holds_same : (need : ℕ) → leb need count || not w.more ≡ true → Holds need w old w old
  holds_same need t =
      record {
        inside = i;
        kept = take_all count (view w old) (omega (arith, length_view));
        grown = omega arith;
        enough = same_by need (leb need count) w.more refl refl t;
        still = λ s. (refl, refl);
        ended = λ e. inl e;
      }

  -- more was read, as there was not enough: the buffer is full, or the input has ended
  full_by : (need end room : ℕ) → need ≤ room → (t : Bool) → eqb end room ≡ t → (need ≤ end - 0) ⊎ (t ≡ false)
  full_by need end room l true e = inl (omega (arith, eqb-true end room e))
  full_by need end room l false e = inr refl

  not_still : (need : ℕ) → leb need count || not w.more ≡ false → (need ≤ count) ⊎ (w.more ≡ false) → ⊥
  not_still need f (inl l) = true≢false (sym (simp (le-leb need count l)) ∙ f)
  not_still need f (inr e) = true≢false (sym (rw e (or_true (leb need count))) ∙ f)

  holds_read : (need end : ℕ) → leb need count || not w.more ≡ false → (new : List ℕ) → need ≤ length new → count ≤ end
      → end ≤ length new → take count new ≡ view w old → Holds need w old (record { at = 0; end = end; more = eqb end (length new) }) new
  holds_read need end f new l a b kept =
      record {
        inside = record { order = omega arith; end = b };
        kept = take-take count end new a ∙ kept;
        grown = omega arith;
        enough = full_by need end (length new) l (eqb end (length new)) refl;
        still = λ s. absurd (not_still need f s);
        ended = λ e. inr (omega (arith, b, eqb-false end (length new) e));
      }

  pub holds_more : (need end : ℕ) → leb need count || not w.more ≡ false → (new : List ℕ) → need ≤ length new → count ≤ end
      → end ≤ length new → take count new ≡ view w old
      → (r : Window) → r.at ≡ 0 → r.end ≡ end → r.more ≡ eqb end (length new) → Holds need w old r new
  holds_more need end f new l a b kept r p q m =
      let is : r ≡ record { at = 0; end = end; more = eqb end (length new) } = rw (← m, ← p, ← q) refl in
      subst (λ (x : Window). Holds need w old x new) (sym is) (holds_read need end f new l a b kept)
