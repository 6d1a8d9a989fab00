-- A choice by a test, and a chain of refusals read back from 'the number is 0'. Assumes nothing.
use mathlib.Core.Bool.{Bool, true, false, cond, not, ◌&&◌, ◌||◌, false≢true}
use mathlib.Core.Path.{◌≡◌, refl, sym, ◌∙◌}
use Prim.Native.Nat.{ℕ, suc}
use native.Mathlib.Omega.{arith}
use borrow.Author.Tests.{not-true, not-false}

pub cond_same : {A : Type 0} (t : Bool) (a : A) → cond t a a ≡ a
cond_same true a = refl
cond_same false a = refl

-- what holds of both choices holds of the choice
pub either_way : {A : Type 0} (P : A → Type 0) (t : Bool) (a b : A) → P a → P b → P (cond t a b)
either_way P true a b p q = p
either_way P false a b p q = q

suc_not_zero : (k : ℕ) → suc k ≡ 0 → ⊥
suc_not_zero k e = omega arith

-- the number is 0: the refusal's test is false, and what follows gives 0
pub passed : (t : Bool) (k x : ℕ) → cond t (suc k) x ≡ 0 → (t ≡ false) × (x ≡ 0)
passed true k x e = absurd (suc_not_zero k e)
passed false k x e = (refl, e)

-- the same for the refusal of what fails a test: the test holds
pub held : (t : Bool) (k x : ℕ) → cond (not t) (suc k) x ≡ 0 → (t ≡ true) × (x ≡ 0)
held true k x e = (refl, e)
held false k x e = absurd (suc_not_zero k e)

-- `if !r` in the code, where r is the test t: it fails in the branch, and holds after it
pub fails : (r t : Bool) → r ≡ t → not r ≡ true → t ≡ false
fails r t e n = sym e ∙ not-true r n

pub holds : (r t : Bool) → r ≡ t → not r ≡ false → t ≡ true
holds r t e n = sym e ∙ not-false r n

pub and_l : (a b : Bool) → a && b ≡ true → a ≡ true
and_l true b e = refl
and_l false b e = e

pub and_r : (a b : Bool) → a && b ≡ true → b ≡ true
and_r true b e = e
and_r false b e = absurd (false≢true e)

pub and_both : (a b : Bool) → a ≡ true → b ≡ true → a && b ≡ true
and_both true b p q = q
and_both false b p q = p

pub and_false : (a : Bool) → a && false ≡ false
and_false true = refl
and_false false = refl

pub or_true : (a : Bool) → a || true ≡ true
or_true true = refl
or_true false = refl

pub or_false : (a : Bool) → a || false ≡ a
or_false true = refl
or_false false = refl
