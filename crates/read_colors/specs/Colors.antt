-- Document 02, L2: the colours read back; the rules are those of document 01, 'Literals' and 'Colours'.
use Rattle.std.specs.Prelude.{ℕ, zero, suc, ◌+◌, ◌-◌, ◌^◌, min, max, cond, List, [], ◌∷◌, eqb, leb, length, replicate}
use Rattle.lists.specs.Written.{front}
use Rattle.literals.specs.Literals.{cut_bits}
use Rattle.reader.specs.Reader.{Reader, ◌>>=◌, ret, due}

-- a colour at its place among ascending ones: of two the smaller stands first
unfoldable pub insert : ℕ → List ℕ → List ℕ
insert e [] = e ∷ []
insert e (c ∷ cs) = min e c ∷ insert (max e c) cs

-- eight colour places: those past the colours are 0
abbrev pub in_eight : List ℕ → List ℕ
in_eight cs = front cs (replicate 8 0)

-- the bit of a cache entry: 1 counts as one colour taken
unfoldable pub read_bit : ℕ → List ℕ → Reader (List ℕ)
read_bit e cs = due 1 1 2 >>= λ b. ret (cond (eqb b 1) (insert e cs) cs)

-- one bit for each cache entry, until n colours are taken
unfoldable pub read_cache : List ℕ → ℕ → List ℕ → Reader (List ℕ)
read_cache [] n cs = ret cs
read_cache (e ∷ es) n cs = cond (leb n (length cs)) (ret cs) (read_bit e cs >>= read_cache es n)

-- k more colours above c, each step in b bits and none past the top level
unfoldable pub read_steps : ℕ → ℕ → ℕ → ℕ → List ℕ → Reader (List ℕ)
read_steps bd b c zero cs = ret cs
read_steps bd b c (suc k) cs =
    due 1 b (min (2 ^ b) (2 ^ bd - 1 - c))
    >>= λ s. let d = c + 1 + s in read_steps bd (cut_bits bd b d) d k (insert d cs)

-- if more follow the first colour c: b - (bd - 3) in 2 bits, then the steps
unfoldable pub read_more : ℕ → ℕ → ℕ → List ℕ → Reader (List ℕ)
read_more bd c zero cs = ret cs
read_more bd c (suc k) cs = due 1 2 4 >>= λ v. read_steps bd (v + (bd - 3)) c (suc k) cs

-- k colours as literals, into those taken from the cache
unfoldable pub read_literals : ℕ → ℕ → List ℕ → Reader (List ℕ)
read_literals bd zero cs = ret cs
read_literals bd (suc k) cs = due 1 bd (2 ^ bd) >>= λ c. read_more bd c k (insert c cs)

-- the cache bits, then the colours that they leave of n
unfoldable pub read_sized : ℕ → List ℕ → ℕ → Reader (List ℕ)
read_sized bd cache n = read_cache cache n [] >>= λ cs. read_literals bd (n - length cs) cs

-- the size, then that many colours
unfoldable pub read_colors : ℕ → List ℕ → Reader (List ℕ)
read_colors bd cache = due 3 0 7 >>= λ s. read_sized bd cache (s + 2)
