-- What three neighbours give: each index once, each below n, and a context below 5. Assumes nothing.
use mathlib.Core.Path.{◌≡◌, refl, sym}
use mathlib.Core.Bool.{Bool, true, false}
use mathlib.Core.List.{List}
use Prim.Native.Nat.{ℕ, zero, suc, ◌+◌, ◌*◌, ◌<◌}
use native.Mathlib.Nat.{suc-mul}
use native.Mathlib.Omega.{arith}
use lib.Dec.{eqb}
use lib.ListN.{get_or}
use borrow.Author.Tests.{eqb-false, ne_eqb}
use Rattle.lists.specs.Counted.{elem}
use Rattle.context.specs.Map.{cell}
use Rattle.context.specs.Order.{choose, by_three, around}
use Rattle.context.proofs.Order.{FirstsOk}

differ : (x y : ℕ) → eqb x y ≡ false → eqb y x ≡ false
differ x y p = ne_eqb y x (λ e. eqb-false x y p (sym e))

choose_ok : (b c e : Bool) (n l t d : ℕ) → eqb l t ≡ b → eqb l d ≡ c → eqb d t ≡ e → l < n → t < n → d < n
    → FirstsOk (choose b c e l t d) n
unfolding choose elem
choose_ok true true e n l t d p q r u v w = record { distinct = (refl, tt); under = (u, tt) }
choose_ok true false e n l t d p q r u v w = record { distinct = (rw q refl, (refl, tt)); under = (u, (w, tt)) }
choose_ok false true e n l t d p q r u v w = record { distinct = (rw p refl, (refl, tt)); under = (u, (v, tt)) }
choose_ok false false true n l t d p q r u v w = record { distinct = (rw (differ l t p) refl, (refl, tt)); under = (v, (u, tt)) }
choose_ok false false false n l t d p q r u v w =
    record { distinct = (rw (p, q) refl, (rw (differ d t r) refl, (refl, tt))); under = (u, (v, (w, tt))) }

pub three_ok : (n l t d : ℕ) → l < n → t < n → d < n → FirstsOk (by_three l t d) n
unfolding by_three
three_ok n l t d = choose_ok (eqb l t) (eqb l d) (eqb d t) n l t d refl refl refl

choose_ctx : (b c e : Bool) (l t d : ℕ) → (choose b c e l t d).ctx < 5
unfolding choose
choose_ctx true true e l t d = omega arith
choose_ctx true false e l t d = omega arith
choose_ctx false true e l t d = omega arith
choose_ctx false false true l t d = omega arith
choose_ctx false false false l t d = omega arith

pub three_ctx : (l t d : ℕ) → (by_three l t d).ctx < 5
unfolding by_three
three_ctx l t d = choose_ctx (eqb l t) (eqb l d) (eqb d t) l t d

pub around_ctx : (map : List ℕ) (s y x : ℕ) → (around by_three map s y x).ctx < 5
unfolding around
around_ctx map s zero zero = omega arith
around_ctx map s zero (suc x) = omega arith
around_ctx map s (suc y) zero = omega arith
around_ctx map s (suc y) (suc x) = three_ctx _ _ _

-- where the cells before the place are below n
pub around_ok : (map : List ℕ) (s y x n : ℕ) → x < s → ((p : ℕ) → p < y * s + x → get_or map p 0 < n)
    → FirstsOk (around by_three map s y x) n
unfolding around cell elem
around_ok map s zero zero n h f = record { distinct = tt; under = tt }
around_ok map s zero (suc x) n h f = record { distinct = (refl, tt); under = (f _ (omega arith), tt) }
around_ok map s (suc y) zero n h f = record { distinct = (refl, tt); under = (f _ (omega (arith, suc-mul y s)), tt) }
around_ok map s (suc y) (suc x) n h f =
    three_ok n _ _ _ (f _ (omega arith)) (f _ (omega (arith, suc-mul y s))) (f _ (omega (arith, suc-mul y s)))
