-- Document 01, 'Call words' and 'Raw width', as document 02's L4 changes it.
use Rattle.std.specs.Prelude.{ℕ, ◌+◌, ◌*◌, ◌/◌, ◌%◌, ◌^◌, cond, List, [], ◌∷◌, eqb}
use Rattle.counts.specs.Counts.{uniform_bits}

-- kind × 2^24 + first × 2^16 + second
unfoldable pub word : ℕ → ℕ → ℕ → ℕ
word kind first second = kind * 2 ^ 24 + first * 2 ^ 16 + second

-- kind 1: width and value
abbrev pub bypass : ℕ → ℕ → ℕ
bypass width value = word 1 width value

-- What one call adds to the raw width. A bypass call adds its width. The uniform call of n and a value added ceil_log2(n) by
-- document 01's rule; since document 02's L4 it adds what `encode_uniform` sends, which is `uniform_bits`.
unfoldable pub raw_bits : ℕ → ℕ
raw_bits c =
    let kind = c / 2 ^ 24 in
    let first = c / 2 ^ 16 % 256 in
    let second = c % 2 ^ 16 in
    cond (eqb kind 1) first (cond (eqb kind 2) (uniform_bits second first) 0)

unfoldable pub raw_width_of : List ℕ → ℕ
raw_width_of [] = 0
raw_width_of (c ∷ cs) = raw_bits c + raw_width_of cs
