-- A float by the fields of its bits, in both formats: the sign, the exponent's field and the digits.
use mathlib.Core.Path.{◌≡◌, refl, ap, ◌∙◌, subst}
use mathlib.Core.Bool.{Bool, true, false, cond}
use Prim.Native.Nat.{ℕ, zero, suc, ◌+◌, ◌-◌, ◌*◌, ◌/◌, ◌%◌, ◌^◌, ◌<◌}
use native.Mathlib.Nat.{add_comm, lt_irrefl, mod-lt, mod-eq_of_lt, mod-mod_of_dvd, dvd-mul_right, mul-pos, zero-lt-suc}
use lib.Dec.{leb, eqb}
use lib.Pow.{pow_pos}
use lib.Ieee.{nan, inf, Format, prec, low, hid, ones, top, odd, of_fields, of_bits}
use lib.Ieee.Exact.{HasValue, odd_sign}
use borrow.Author.Tests.{lt-leb, ne_eqb}
use Rattle.ieee.proofs.Signs.{resign}

-- ---- the sign stands alone
odd_resign : (d : ℕ) (s : Bool) (q k l : ℕ) → odd d s q k l ≡ resign s (odd d false q k l)
unfolding odd
odd_resign d s zero k l = refl
odd_resign d s (suc q) k l = refl

fields_resign : (f : Format) (s : Bool) (x t : ℕ) → of_fields f s x t ≡ resign s (of_fields f false x t)
unfolding of_fields
fields_resign f s zero t = odd_resign (prec f) s t 0 (low f)
fields_resign f s (suc x) t = go (eqb (suc x) (ones f)) (eqb t 0)
  where
    go : (b d : Bool) → cond b (cond d (inf s) nan) (odd (prec f) s (hid f + t) x (low f))
        ≡ resign s (cond b (cond d (inf false) nan) (odd (prec f) false (hid f + t) x (low f)))
    go true true = refl
    go true false = refl
    go false d = odd_resign (prec f) s (hid f + t) x (low f)

module _ (f : Format) (b : ℕ) where
  top_pos : 0 < top f
  top_pos = mul-pos (pow_pos (prec f - 1)) (zero-lt-suc (ones f))

  pub sign_of : of_bits f b ≡ resign (leb (top f) b) (of_bits f (b % top f))
  unfolding of_bits
  sign_of =
      let r = b % top f in
      let s : leb (top f) r ≡ false = lt-leb (top f) r (mod-lt b top_pos) in
      let e : r % top f ≡ r = mod-eq_of_lt (mod-lt b top_pos) in
      let t : r % hid f ≡ b % hid f = mod-mod_of_dvd (hid f) b (dvd-mul_right (hid f) (suc (ones f))) in
      fields_resign f (leb (top f) b) (r / hid f) (b % hid f) ∙ rw (s, e, t) refl

  -- ---- bits without a sign
  module _ (small : b < top f) where
    pub fields_of_holds : of_bits f b ≡ of_fields f false (b / hid f) (b % hid f)
    unfolding of_bits
    fields_of_holds =
        let s : leb (top f) b ≡ false = lt-leb (top f) b small in
        let e : b % top f ≡ b = mod-eq_of_lt small in
        rw (s, e) refl

    pub normal_value : (i : ℕ) → b / hid f ≡ suc i → suc i < ones f
        → HasValue (of_bits f b) false ((b % hid f + hid f) * 2 ^ i) (2 ^ low f)
    unfolding of_fields
    normal_value i e l =
        let t = b % hid f in
        let is : of_fields f false (suc i) t ≡ odd (prec f) false (hid f + t) i (low f) =
        ap (λ z. cond z (cond (eqb t 0) (inf false) nan) (odd (prec f) false (hid f + t) i (low f)))
        (ne_eqb (suc i) (ones f) (λ d. lt_irrefl (ones f) (subst (λ z. z < ones f) d l))) in
        rw (fields_of_holds, e, is, add_comm t (hid f)) (odd_sign (prec f) false (hid f + t) i (low f))

    pub subnormal_value : b / hid f ≡ 0 → HasValue (of_bits f b) false (b % hid f * 2 ^ 0) (2 ^ low f)
    unfolding of_fields
    subnormal_value e = rw (fields_of_holds, e) (odd_sign (prec f) false (b % hid f) 0 (low f))
