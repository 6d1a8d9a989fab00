-- What is not above the bits of infinity is no NaN, and what is has one value.
use Rattle.std.proofs.Common.{◌≡◌, refl, ◌∙◌, ap, sym, subst, ℕ, ◌<◌, ◌%◌, true}
use mathlib.Core.Bool.{not, false≢true}
use lib.Dec.{T}
use lib.Ieee.{Float, nan, inf, fin, is_nan, binary32, of_bits}
use lib.Ieee.Bits.{nan_bits_is, nan_bits_above}
use borrow.Author.Tests.{le-ltb, lt-ltb}
use Rattle.replaying.proofs.F32OfBytes4.of_bytes.Goals as goal

pub float_from_bits-result : goal.float_from_bits-result
float_from_bits-result c =
    subst T (sym (ap not (nan_bits_above binary32 _ ∙ le-ltb 2139095040 _ c.if-bits-gt2139095040.false))) tt

only_nan : (x : Float) → is_nan x ≡ true → x ≡ nan
unfolding is_nan
only_nan nan e = refl
only_nan (inf s) e = absurd (false≢true e)
only_nan (fin s m k) e = absurd (false≢true e)

some_nan : of_bits binary32 2143289344 ≡ nan
unfolding of_bits
some_nan = refl

is_one : (n : ℕ) → 2139095040 < n % 2147483648 → of_bits binary32 n ≡ nan
is_one n above = only_nan _ (sym (nan_bits_is binary32 n) ∙ nan_bits_above binary32 n ∙ lt-ltb _ _ above)

pub returns-then-bits-gt2139095040 : goal.returns-then-bits-gt2139095040
returns-then-bits-gt2139095040 c = some_nan ∙ sym (is_one _ c.if-bits-gt2139095040.true) ∙ ap (of_bits binary32) c.from_le_bytes-bits.ensures
