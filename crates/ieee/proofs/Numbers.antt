-- Whole numbers as floats: up to 2 ^ prec each has its own value, and the sum, the difference, the product and the
-- quotient of two is that of the numbers, rounded once.
use mathlib.Core.Path.{◌≡◌, refl, sym, ◌∙◌}
use mathlib.Core.Bool.{false}
use Prim.Native.Nat.{ℕ, ◌+◌, ◌-◌, ◌*◌, ◌^◌, ◌≤◌, ◌<◌}
use native.Mathlib.Nat.{mul-one, zero-lt-suc}
use lib.Ieee.{Format, prec, round, of_int, add, sub, mul, div}
use lib.Ieee.Exact.{HasValue}
use lib.Ieee.Back.{round_whole}
use Rattle.ieee.specs.Numbers.{nat}
use Rattle.ieee.proofs.Exact.{add_at, sub_at, mul_at, div_at}

pub nat_is : (f : Format) (n : ℕ) → nat f n ≡ round f false n 1
unfolding of_int
nat_is f n = refl

pub nat_val : (f : Format) (n : ℕ) → n ≤ 2 ^ prec f → HasValue (nat f n) false n 1
nat_val f n h = rw nat_is (round_whole f false n h)

module _ (f : Format) (a b : ℕ) (A : a ≤ 2 ^ prec f) (B : b ≤ 2 ^ prec f) where
  one : 0 < 1
  one = zero-lt-suc 0

  pub nat_add : add f (nat f a) (nat f b) ≡ nat f (a + b)
  nat_add = add_at f _ _ a 1 b 1 one one (nat_val f a A) (nat_val f b B) ∙ simp mul-one (sym (nat_is f (a + b)))

  pub nat_sub : b ≤ a → sub f (nat f a) (nat f b) ≡ nat f (a - b)
  nat_sub h =
      sub_at f _ _ a 1 b 1 one one (nat_val f a A) (nat_val f b B) (simp mul-one h)
      ∙ simp mul-one (sym (nat_is f (a - b)))

  pub nat_mul : mul f (nat f a) (nat f b) ≡ nat f (a * b)
  nat_mul = mul_at f _ _ a 1 b 1 one one (nat_val f a A) (nat_val f b B) ∙ sym (nat_is f (a * b))

  pub nat_div : 0 < b → div f (nat f a) (nat f b) ≡ round f false a b
  nat_div h = div_at f _ _ a 1 b 1 one one h (nat_val f a A) (nat_val f b B) ∙ simp mul-one
