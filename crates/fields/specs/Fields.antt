-- Document 01, 'Listing program': fields of 8 columns right-justified, lines of fields, rows of lines. Each field has 8
-- columns, so all stands at known places; a byte past the text's end counts as 0, which no form has.
use Rattle.std.specs.Prelude.{ℕ, zero, suc, ◌+◌, ◌*◌, ◌-◌, min, Bool, true, false, cond, ◌&&◌, List, [], ◌∷◌, ◌++◌, eqb, leb, ltb, get_or}
use Rattle.lists.specs.Counted.{within}
use Rattle.fields.specs.declared.Field.{Field}
use Rattle.fields.specs.declared.Field.TheVariants.{Blank, Number, Bad}

-- '0' to '9'
unfoldable pub is_digit : ℕ → Bool
is_digit b = within 48 57 b

-- a field with one column more: spaces, then digits, at most eight; no digit follows a leading zero
unfoldable pub column : Field → ℕ → Field
column Blank b = cond (eqb b 32) Blank (cond (is_digit b) (Number (b - 48)) Bad)
column (Number v) b = cond (is_digit b) (cond (eqb v 0) Bad (cond (ltb v 10000000) (Number (v * 10 + (b - 48))) Bad)) Bad
column Bad b = Bad

-- k columns more, from a place on
unfoldable pub columns : List ℕ → ℕ → ℕ → Field → Field
columns s at zero f = f
columns s at (suc k) f = columns s (at + 1) k (column f (get_or s at 0))

unfoldable pub field_at : List ℕ → ℕ → Field
field_at s at = columns s at 8 Blank

abbrev pub number_of : Field → ℕ
number_of Blank = 0
number_of (Number v) = v
number_of Bad = 0

abbrev pub number_up_to : ℕ → Field → Bool
number_up_to limit Blank = false
number_up_to limit (Number v) = leb v limit
number_up_to limit Bad = false

-- a line at a place: k numbers up to a limit, ended by one newline
unfoldable pub is_line : ℕ → List ℕ → ℕ → ℕ → Bool
is_line limit s at zero = eqb (get_or s at 0) 10
is_line limit s at (suc k) = number_up_to limit (field_at s at) && is_line limit s (at + 8) k

unfoldable pub line_numbers : List ℕ → ℕ → ℕ → List ℕ
line_numbers s at zero = []
line_numbers s at (suc k) = number_of (field_at s at) ∷ line_numbers s (at + 8) k

-- h lines of w fields
unfoldable pub are_rows : ℕ → List ℕ → ℕ → ℕ → ℕ → Bool
are_rows limit s at w zero = true
are_rows limit s at w (suc h) = is_line limit s at w && are_rows limit s (at + (8 * w + 1)) w h

unfoldable pub row_numbers : List ℕ → ℕ → ℕ → ℕ → List ℕ
row_numbers s at w zero = []
row_numbers s at w (suc h) = line_numbers s at w ++ row_numbers s (at + (8 * w + 1)) w h

-- each number cut to a limit
unfoldable pub cut : ℕ → List ℕ → List ℕ
cut limit [] = []
cut limit (v ∷ vs) = min v limit ∷ cut limit vs
