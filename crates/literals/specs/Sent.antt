-- Document 02, L4: the bits that the byte coder sends as they are, for the calls that are no symbols, by the Rust's
-- `encode_bypass` and `encode_uniform` (entropy.rs).
use Rattle.std.specs.Prelude.{ℕ, zero, suc, ◌+◌, ◌-◌, ◌/◌, ◌%◌, ◌^◌, ◌≤◌, ◌<◌, ◌≡◌, cond, List, [], ◌∷◌, ◌++◌, eqb, ltb, length}
use Rattle.counts.specs.Counts.{ceil_log2}
use Rattle.literals.specs.Words.{raw_width_of}

-- `encode_bypass` of a value below 2^width: its binary digits, as many as the width, the highest first
unfoldable pub bypass_sent : ℕ → ℕ → List ℕ
bypass_sent zero v = []
bypass_sent (suc k) v = v / 2 ^ k % 2 ∷ bypass_sent k v

-- `encode_uniform` of a value below n: with l the number of n's binary digits, the first m = 2^l - n values in l - 1 bits, any
-- other as value + m in l bits
unfoldable pub uniform_sent : ℕ → ℕ → List ℕ
uniform_sent v n =
    let l = ceil_log2 (n + 1) in
    let m = 2 ^ l - n in
    cond (ltb v m) (bypass_sent (l - 1) v) (bypass_sent l (v + m))

-- The Rust sends the last of these l bits by a write of its own. Proved in proofs/Sent.antt.
abbrev pub InTwoWrites : Type 0
InTwoWrites =
    (v n : ℕ) → 1 ≤ n → n < 2 ^ 32
    → let l = ceil_log2 (n + 1) in
    let m = 2 ^ l - n in
    uniform_sent v n ≡ cond (ltb v m) (bypass_sent (l - 1) v) (bypass_sent (l - 1) ((v + m) / 2) ++ bypass_sent 1 ((v + m) % 2))

-- size, row and colour are symbols: no bit of theirs is sent as it is
unfoldable pub call_sent : ℕ → List ℕ
call_sent c =
    let kind = c / 2 ^ 24 in
    let first = c / 2 ^ 16 % 256 in
    let second = c % 2 ^ 16 in
    cond (eqb kind 1) (bypass_sent first second) (cond (eqb kind 2) (uniform_sent second first) [])

unfoldable pub bits_sent : List ℕ → List ℕ
bits_sent [] = []
bits_sent (c ∷ cs) = call_sent c ++ bits_sent cs

-- The raw width is the number of these bits, of any words. Proved in proofs/Sent.antt.
abbrev pub RawIsSent : Type 0
RawIsSent = (cs : List ℕ) → raw_width_of cs ≡ length (bits_sent cs)
