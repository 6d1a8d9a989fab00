-- One step at a place of a list, and readers in a loop. Assumes nothing.
use mathlib.Core.Path.{◌≡◌, refl, sym, ap, ◌∙◌}
use mathlib.Core.Bool.{cond}
use mathlib.Core.List.{List}
use mathlib.Core.Logic.{⊎_elim}
use Prim.Native.Nat.{ℕ, zero, suc, ◌+◌, ◌-◌, ◌<◌, ◌≤◌}
use native.Mathlib.Nat.{eq-or-lt_of_le, le_of_suc-le-suc}
use native.Mathlib.Numerals.{add-one}
use native.Mathlib.Omega.{arith}
use lib.ListN.{length, get_or, drop, drop_of_length-le}
use lib.Seq.{drop-cons}
use Rattle.std.specs.Prelude.{Result, Ok, Err, IsErrAnd}
use borrow.Author.Tests.{lt-ltb, le-ltb, le-leb, lt-leb}
use Rattle.literals.specs.Words.{word}
use Rattle.refusals.specs.declared.Refusal.{Refusal}
use Rattle.refusals.specs.Numbers.{number_of}
use Rattle.reader.specs.Steps.{told}
use Rattle.reader.specs.Reader.{Got, got, fault, after, ret, Reader, is_due, due, read_up_to}

-- ---- the three answers of a step

module _ (ws : List ℕ) (at kind first limit : ℕ) where
  abbrev least : ℕ
  least = word kind first 0

  pub step_ended : length ws ≤ at → due kind first limit (drop at ws) ≡ fault 20
  unfolding due
  step_ended h = rw (drop_of_length-le ws {i = at} h) refl

  module _ (inside : at < length ws) (c : ℕ) (is : c ≡ get_or ws at 0) where
    at_word : due kind first limit (drop at ws) ≡ cond (is_due kind first limit c) (got (c - least) (drop (at + 1) ws)) (fault 21)
    unfolding due
    at_word = rw (drop-cons ws at 0 inside, ← add-one at, is) refl

    pub step_below : c < least → due kind first limit (drop at ws) ≡ fault 21
    unfolding is_due
    step_below k = at_word ∙ rw (lt-leb least c k) refl

    pub step_second : least ≤ c → c - least < limit → due kind first limit (drop at ws) ≡ got (c - least) (drop (at + 1) ws)
    unfolding is_due word
    step_second k l = at_word ∙ rw (le-leb least c k, lt-ltb c (word kind first limit) (omega arith)) refl

    pub step_above : least ≤ c → limit ≤ c - least → due kind first limit (drop at ws) ≡ fault 21
    unfolding is_due word
    step_above k l = at_word ∙ rw (le-leb least c k, le-ltb c (word kind first limit) (omega arith)) refl

-- ---- what a result tells

pub told_made : {A B C : Type 0} (f : C → A) (r : Result C Refusal) (ws : List ℕ) (g : A → B)
    → after (told f r ws) (λ x. ret (g x)) ≡ told (λ c. g (f c)) r ws
told_made f (Ok c) ws g = refl
told_made f (Err e) ws g = refl

-- after a refusal no more is read, whatever value stands beside it
pub told_fault : {A B C : Type 0} (f : C → A) (r : Result C Refusal) (ws : List ℕ) (g : A → Reader B) (b : C → B) (e : Refusal) → r ≡ Err e
    → after (told f r ws) g ≡ told b r ws
told_fault f r ws g b e h = rw h refl

pub told_next : {A B C : Type 0} (f : C → A) (r : Result C Refusal) (ws : List ℕ) (g : A → Reader B) (c : C) → r ≡ Ok c
    → after (told f r ws) g ≡ g (f c) ws
told_next f r ws g c h = rw h refl

pub told_got : {A C : Type 0} (f : C → A) (r : Result C Refusal) (ws : List ℕ) (c : C) → r ≡ Ok c → told f r ws ≡ got (f c) ws
told_got f r ws c h = rw h refl

pub told_any : {A C : Type 0} (f g : C → A) (r : Result C Refusal) (ws : List ℕ) (e : Refusal) → r ≡ Err e → told f r ws ≡ told g r ws
told_any f g r ws e h = rw h refl

-- ---- readers in a loop

module _ {S : Type 0} (f : ℕ → S → Reader S) (s₀ : S) (vs : List ℕ) where
  pub up_next : (i : ℕ) (s : S) (ws : List ℕ) (g : Got S) → read_up_to f i s₀ vs ≡ got s ws → f i s ws ≡ g → read_up_to f (i + 1) s₀ vs ≡ g
  unfolding read_up_to
  up_next i s ws g e k = rw add-one (ap (λ (g : Got S). after g (f i)) e ∙ k)

  -- after a fault no later one is read
  pub up_fault : (n i k : ℕ) → i ≤ n → read_up_to f i s₀ vs ≡ fault k → read_up_to f n s₀ vs ≡ fault k
  unfolding read_up_to
  up_fault zero i k h e = let z : i ≡ zero = omega arith in ap (λ (j : ℕ). read_up_to f j s₀ vs) (sym z) ∙ e
  up_fault (suc n) i k h e =
      ⊎_elim (λ q. ap (λ (j : ℕ). read_up_to f j s₀ vs) (sym q) ∙ e)
      (λ l. ap (λ (g : Got S). after g (f n)) (up_fault n i k (le_of_suc-le-suc l) e))
      (eq-or-lt_of_le h)

-- ---- a refusal passed on

pub passed_on : {A B : Type 0} (f : B → A) (r : Result B Refusal) (e : Refusal) (ws : List ℕ) (g : Got A) → IsErrAnd r (λ x. x ≡ e)
    → g ≡ fault (number_of e) → g ≡ told f r ws
passed_on f (Ok b) e ws g h k = absurd h
passed_on f (Err x) e ws g h k = k ∙ ap (λ (x : Refusal). fault (number_of x)) (sym h)
