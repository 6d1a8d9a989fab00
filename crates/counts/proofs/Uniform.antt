-- How many bits a value among n takes at most. Assumes nothing.
use mathlib.Core.Path.{◌≡◌, refl}
use mathlib.Core.Bool.{Bool, true, false, cond}
use Prim.Native.Nat.{ℕ, suc, ◌+◌, ◌-◌, ◌^◌, ◌<◌, ◌≤◌}
use native.Mathlib.Decide.{dec_le}
use native.Mathlib.Omega.{arith}
use borrow.Author.Tests.{ltb-false}
use lib.Dec.{ltb}
use Rattle.lists.proofs.Choice.{either_way}
use Rattle.counts.specs.Counts.{ceil_log2, uniform_bits}
use Rattle.counts.proofs.Log.{ceil_least}

-- any number among fewer than 2^j values
pub uniform_any : (v n j : ℕ) → n < 2 ^ j → uniform_bits v n ≤ j
unfolding uniform_bits
uniform_any v n j few =
    let digits : ceil_log2 (n + 1) ≤ j = ceil_least (n + 1) j (omega arith) in
    either_way (λ (k : ℕ). k ≤ j) (ltb v (2 ^ ceil_log2 (n + 1) - n)) (ceil_log2 (n + 1) - 1) (ceil_log2 (n + 1)) (omega arith) digits

-- one of at most 2^j values: never more than ceil_log2(n) bits
pub uniform_below : (v n j : ℕ) → v < n → n ≤ 2 ^ j → uniform_bits v n ≤ j
unfolding uniform_bits
uniform_below v n j below most =
    let l = ceil_log2 (n + 1) in
    let digits : l ≤ suc j = ceil_least (n + 1) (suc j) (omega arith) in
    let go : (t : Bool) → ltb v (2 ^ l - n) ≡ t → cond t (l - 1) l ≤ j =
    elim [ true ↦ λ e. omega arith | false ↦ λ e. whole l digits (ltb-false v (2 ^ l - n) e) ] in
    go (ltb v (2 ^ l - n)) refl
  where
    whole : (l : ℕ) → l ≤ suc j → 2 ^ l - n ≤ v → l ≤ j
    whole l digits past =
        elim (dec_le l j) [
          | yes g ↦ g
          | no g ↦ let e : l ≡ suc j = omega arith in let full : 2 ^ suc j - n ≤ v = rw e at past in absurd (omega arith)
        ]
