-- Document 01, 'Modules, leaves first', 2: the small counts.
use Rattle.std.specs.Prelude.{ℕ, zero, suc, ◌+◌, ◌-◌, ◌*◌, ◌^◌, Bool, cond, ◌&&◌, ltb, leb}

-- the least b with v ≤ 2^b, if there is one below n; else n
unfoldable pub least_bits : ℕ → ℕ → ℕ
least_bits zero v = 0
least_bits (suc k) v = cond (leb v (2 ^ k)) (least_bits k v) (suc k)

-- the least b with v ≤ 2^b, for v of 32 bits: 0 and 1 give 0
unfoldable pub ceil_log2 : ℕ → ℕ
ceil_log2 v = least_bits 32 v

-- the width of value v among n: with l the binary digits of n, one less for the first 2^l - n values
unfoldable pub uniform_bits : ℕ → ℕ → ℕ
uniform_bits v n = let l = ceil_log2 (n + 1) in cond (ltb v (2 ^ l - n)) (l - 1) l

-- an orientation bit is sent if both sides are below 64
abbrev pub orient_sent : ℕ → ℕ → Bool
orient_sent w h = ltb w 64 && ltb h 64

-- sides in units of 4: each at most 16, their product at least 4, so that a zero side fails
unfoldable pub block_allowed : ℕ → ℕ → Bool
block_allowed bw4 bh4 = leb bw4 16 && leb bh4 16 && leb 4 (bw4 * bh4)
