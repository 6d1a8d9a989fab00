-- A call word tells its fields, and what it adds to the raw width. Assumes nothing.
use mathlib.Core.Path.{◌≡◌, refl}
use mathlib.Core.Bool.{cond}
use Prim.Native.Nat.{ℕ, ◌/◌, ◌%◌, ◌^◌, ◌<◌, ◌≤◌}
use native.Mathlib.Omega.{arith}
use lib.Dec.{eqb}
use Rattle.lists.proofs.Choice.{either_way}
use Rattle.counts.specs.Counts.{uniform_bits}
use Rattle.counts.proofs.Uniform.{uniform_any}
use Rattle.literals.specs.Words.{word, raw_bits}

-- words of one kind and first field
pub word_injective : (k f g a b : ℕ) → f ≡ g → word k f a ≡ word k g b → a ≡ b
unfolding word
word_injective k f g a b p e = omega arith

-- a bypass call adds its width, the uniform call of n and a value its bits, a call of another kind nothing
pub raw_word : (k f a : ℕ) → f < 256 → a < 65536 → raw_bits (word k f a) ≡ cond (eqb k 1) f (cond (eqb k 2) (uniform_bits a f) 0)
unfolding raw_bits word
raw_word k f a p q =
    let kind : word k f a / 2 ^ 24 ≡ k = omega arith in
    let first : word k f a / 2 ^ 16 % 256 ≡ f = omega arith in
    let second : word k f a % 2 ^ 16 ≡ a = omega arith in
    rw (kind, first, second) refl

-- no word adds more than its first field can say
pub bits_most : (c : ℕ) → raw_bits c ≤ 255
unfolding raw_bits
bits_most c =
    let small : ℕ → Type 0 = λ n. n ≤ 255 in
    let first = c / 2 ^ 16 % 256 in
    let uniform : uniform_bits (c % 2 ^ 16) first ≤ 8 = uniform_any (c % 2 ^ 16) first 8 (omega arith) in
    either_way small (eqb (c / 2 ^ 24) 1) first _ (omega arith) (either_way small (eqb (c / 2 ^ 24) 2) _ 0 (omega arith) (omega arith))
