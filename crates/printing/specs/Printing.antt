-- Document 01, 'Listing program', the output: numbers in fields of 8 columns, right-justified, without leading zeros.
use Rattle.std.specs.Prelude.{ℕ, zero, suc, ◌+◌, ◌/◌, ◌%◌, ◌^◌, cond, List, [], ◌∷◌, ◌++◌, eqb, length}

-- k columns that end in the digits of v, spaces in front of its first digit; only spaces for 0
unfoldable pub digits : ℕ → ℕ → List ℕ
digits zero v = []
digits (suc k) v = digits k (v / 10) ++ (cond (eqb v 0) 32 (48 + v % 10) ∷ [])

-- 8 columns, the last of them a digit
unfoldable pub field : ℕ → List ℕ
field v = digits 7 (v / 10) ++ ((48 + v % 10) ∷ [])

-- fields, then one newline
unfoldable pub line : List ℕ → List ℕ
line [] = 10 ∷ []
line (v ∷ vs) = field v ++ line vs

-- kind, first and second of a call
unfoldable pub call_line : ℕ → List ℕ
call_line c = line (c / 2 ^ 24 ∷ c / 2 ^ 16 % 256 ∷ c % 2 ^ 16 ∷ [])

unfoldable pub call_lines : List ℕ → List ℕ
call_lines [] = []
call_lines (c ∷ cs) = call_line c ++ call_lines cs

-- a line with the number of calls, then the calls
unfoldable pub listed : List ℕ → List ℕ
listed cs = line (length cs ∷ []) ++ call_lines cs

-- a refusal: 0 and the number
unfoldable pub refused : ℕ → List ℕ
refused k = line (0 ∷ k ∷ [])
