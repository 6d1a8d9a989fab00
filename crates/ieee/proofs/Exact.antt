-- The operators at values that are not negative, by any fractions that the operands equal: each is one rounding of the
-- exact result.
use mathlib.Core.Path.{◌≡◌, refl, sym, ◌∙◌, subst}
use mathlib.Core.Bool.{true, false}
use Prim.Native.Nat.{ℕ, ◌+◌, ◌-◌, ◌*◌, ◌≤◌, ◌<◌}
use native.Mathlib.Nat.{mul_comm, mul-pos, lt_irrefl}
use lib.Ieee.{Float, fin, Format, up, down, round, sum, add, sub, mul, div, inf, nan}
use lib.Ieee.Fits.{down_pos}
use lib.Ieee.Exact.{HasValue}
use lib.Ieee.Scale.{round_same}
use lib.Ieee.Positive.{first_pos}
use borrow.Author.Tests.{le-ltb, ne_eqb}
use Rattle.ieee.proofs.Fractions.{downs_pos, same_sum, same_difference, same_product, same_quotient, same_lt}

pub add_at : (f : Format) (x y : Float) (a c b d : ℕ) → 0 < c → 0 < d → HasValue x false a c → HasValue y false b d
    → add f x y ≡ round f false (a * d + b * c) (c * d)
unfolding add sum
add_at f nan y a c b d C D p q = elim p [ ]
add_at f (inf _) y a c b d C D p q = elim p [ ]
add_at f (fin s m e) nan a c b d C D p q = elim q [ ]
add_at f (fin s m e) (inf _) a c b d C D p q = elim q [ ]
add_at f (fin s m e) (fin t n g) a c b d C D p q =
    rw (p.0, q.0) (round_same f false _ _ _ _ (downs_pos e g) (mul-pos C D) (same_sum _ _ _ _ a c b d p.1 q.1))

-- a difference, of either sign
sub_sum : (f : Format) (x y : Float) (a c b d : ℕ) → 0 < c → 0 < d → HasValue x false a c → HasValue y false b d
    → sub f x y ≡ sum f false (a * d) true (b * c) (c * d)
unfolding sub sum
sub_sum f nan y a c b d C D p q = elim p [ ]
sub_sum f (inf _) y a c b d C D p q = elim p [ ]
sub_sum f (fin s m e) nan a c b d C D p q = elim q [ ]
sub_sum f (fin s m e) (inf _) a c b d C D p q = elim q [ ]
sub_sum f (fin s m e) (fin t n g) a c b d C D p q =
    rw (p.0, q.0) (cc (
      same_lt _ _ _ _ a c b d p.1 q.1 (down_pos e) (down_pos g) C D,
      round_same f false _ _ _ _ (downs_pos e g) (mul-pos C D) (same_difference _ _ _ _ a c b d p.1 q.1),
      round_same f true _ _ _ _ (downs_pos g e) (mul-pos D C) (same_difference _ _ _ _ b d a c q.1 p.1),
      mul_comm (down g) (down e),
      mul_comm d c,
    ))

pub sub_at : (f : Format) (x y : Float) (a c b d : ℕ) → 0 < c → 0 < d → HasValue x false a c → HasValue y false b d
    → b * c ≤ a * d → sub f x y ≡ round f false (a * d - b * c) (c * d)
unfolding sum
sub_at f x y a c b d C D p q h = sub_sum f x y a c b d C D p q ∙ rw (le-ltb (a * d) (b * c) h) refl

pub mul_at : (f : Format) (x y : Float) (a c b d : ℕ) → 0 < c → 0 < d → HasValue x false a c → HasValue y false b d
    → mul f x y ≡ round f false (a * b) (c * d)
unfolding mul
mul_at f nan y a c b d C D p q = elim p [ ]
mul_at f (inf _) y a c b d C D p q = elim p [ ]
mul_at f (fin s m e) nan a c b d C D p q = elim q [ ]
mul_at f (fin s m e) (inf _) a c b d C D p q = elim q [ ]
mul_at f (fin s m e) (fin t n g) a c b d C D p q =
    rw (p.0, q.0) (round_same f false _ _ _ _ (downs_pos e g) (mul-pos C D) (same_product _ _ _ _ a c b d p.1 q.1))

-- y is above 0
pub div_at : (f : Format) (x y : Float) (a c b d : ℕ) → 0 < c → 0 < d → 0 < b → HasValue x false a c → HasValue y false b d
    → div f x y ≡ round f false (a * d) (b * c)
unfolding div
div_at f nan y a c b d C D B p q = elim p [ ]
div_at f (inf _) y a c b d C D B p q = elim p [ ]
div_at f (fin s m e) nan a c b d C D B p q = elim q [ ]
div_at f (fin s m e) (inf _) a c b d C D B p q = elim q [ ]
div_at f (fin s m e) (fin t n g) a c b d C D B p q =
    let w : 0 < n * up g = first_pos (n * up g) d (subst (λ z. 0 < z) (sym q.1) (mul-pos B (down_pos g))) in
    rw (p.0, q.0, ne_eqb n 0 (λ z. lt_irrefl 0 (subst (λ k. 0 < k) z (first_pos n (up g) w))))
    (round_same f false _ _ _ _ (mul-pos w (down_pos e)) (mul-pos B C) (same_quotient _ _ _ _ a c b d p.1 q.1))
