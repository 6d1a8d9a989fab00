-- The raw width of calls is the number of bits that the byte coder sends for them as they are. Assumes nothing.
use mathlib.Core.Path.{◌≡◌, refl, sym, ap, ◌∙◌}
use mathlib.Core.Bool.{Bool, true, false, cond}
use mathlib.Core.List.{List, [], ◌∷◌, ◌++◌}
use Prim.Native.Nat.{ℕ, zero, suc, ◌+◌, ◌-◌, ◌/◌, ◌%◌, ◌^◌, ◌≤◌}
use native.Mathlib.Omega.{arith}
use lib.Dec.{eqb, ltb}
use lib.ListN.{length, length-append}
use lib.Pow.{shr-shr}
use Rattle.counts.specs.Counts.{ceil_log2, uniform_bits}
use Rattle.counts.proofs.Log.{ceil_reaches}
use Rattle.literals.specs.Words.{raw_bits, raw_width_of}
use Rattle.literals.specs.Sent.{bypass_sent, uniform_sent, call_sent, bits_sent, InTwoWrites, RawIsSent}

bypass_length : (k v : ℕ) → length (bypass_sent k v) ≡ k
unfolding bypass_sent
bypass_length zero v = refl
bypass_length (suc k) v = omega (arith, bypass_length k v)

-- the last digit apart
last_apart : (k v : ℕ) → bypass_sent k (v / 2) ++ bypass_sent 1 (v % 2) ≡ bypass_sent (suc k) v
unfolding bypass_sent
last_apart zero v = let same : v % 2 / 1 % 2 ≡ v / 1 % 2 = omega arith in ap (λ (b : ℕ). b ∷ []) same
last_apart (suc k) v =
    let one_more : 1 + k ≡ suc k = omega arith in
    let higher : v / 2 / 2 ^ k ≡ v / 2 ^ suc k = shr-shr v 1 k ∙ ap (λ (j : ℕ). v / 2 ^ j) one_more in
    rw (higher, last_apart k v) refl

joined : (l v : ℕ) → 2 ≤ 2 ^ l → bypass_sent (l - 1) (v / 2) ++ bypass_sent 1 (v % 2) ≡ bypass_sent l v
joined zero v h = absurd (omega arith)
joined (suc k) v h = let before : suc k - 1 ≡ k = omega arith in rw before (last_apart k v)

pub in_two_writes : InTwoWrites
unfolding uniform_sent
in_two_writes v n some small =
    let l = ceil_log2 (n + 1) in
    let m = 2 ^ l - n in
    let digits : n + 1 ≤ 2 ^ l = ceil_reaches (n + 1) (omega arith) in
    ap (cond (ltb v m) (bypass_sent (l - 1) v)) (sym (joined l (v + m) (omega arith)))

-- the length of either choice
length_cond : (t : Bool) (us vs : List ℕ) → length (cond t us vs) ≡ cond t (length us) (length vs)
length_cond true us vs = refl
length_cond false us vs = refl

uniform_length : (v n : ℕ) → length (uniform_sent v n) ≡ uniform_bits v n
unfolding uniform_sent uniform_bits
uniform_length v n =
    let l = ceil_log2 (n + 1) in
    let m = 2 ^ l - n in
    rw (length_cond (ltb v m) (bypass_sent (l - 1) v) (bypass_sent l (v + m)), bypass_length (l - 1) v, bypass_length l (v + m)) refl

call_length : (c : ℕ) → length (call_sent c) ≡ raw_bits c
unfolding call_sent raw_bits
call_length c =
    let kind = c / 2 ^ 24 in
    let first = c / 2 ^ 16 % 256 in
    let second = c % 2 ^ 16 in
    let uniform = cond (eqb kind 2) (uniform_sent second first) [] in
    length_cond (eqb kind 1) (bypass_sent first second) uniform
    ∙ rw (length_cond (eqb kind 2) (uniform_sent second first) [], bypass_length first second, uniform_length second first) refl

pub raw_is_sent : RawIsSent
unfolding raw_width_of bits_sent
raw_is_sent [] = refl
raw_is_sent (c ∷ cs) = omega (arith, length-append (call_sent c) (bits_sent cs), call_length c, raw_is_sent cs)
