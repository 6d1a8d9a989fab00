-- The comparisons of two values that are not negative, by any fractions that they equal, as tests on numbers.
use mathlib.Core.Path.{◌≡◌, ◌∙◌}
use mathlib.Core.Bool.{false, and-true}
use Prim.Native.Nat.{ℕ, ◌*◌, ◌<◌}
use lib.Dec.{ltb, leb, eqb}
use lib.Ieee.{Float, fin, lt, le, eq, inf, nan}
use lib.Ieee.Fits.{down_pos}
use lib.Ieee.Exact.{HasValue}
use Rattle.ieee.proofs.Fractions.{same_lt, same_eq, or_le}

pub lt_at : (x y : Float) (a c b d : ℕ) → 0 < c → 0 < d → HasValue x false a c → HasValue y false b d
    → lt x y ≡ ltb (a * d) (b * c)
unfolding lt
lt_at nan y a c b d C D p q = elim p [ ]
lt_at (inf _) y a c b d C D p q = elim p [ ]
lt_at (fin s m e) nan a c b d C D p q = elim q [ ]
lt_at (fin s m e) (inf _) a c b d C D p q = elim q [ ]
lt_at (fin s m e) (fin t n g) a c b d C D p q =
    rw (p.0, q.0) (same_lt _ _ _ _ a c b d p.1 q.1 (down_pos e) (down_pos g) C D)

pub eq_at : (x y : Float) (a c b d : ℕ) → 0 < c → 0 < d → HasValue x false a c → HasValue y false b d
    → eq x y ≡ eqb (a * d) (b * c)
unfolding eq
eq_at nan y a c b d C D p q = elim p [ ]
eq_at (inf _) y a c b d C D p q = elim p [ ]
eq_at (fin s m e) nan a c b d C D p q = elim q [ ]
eq_at (fin s m e) (inf _) a c b d C D p q = elim q [ ]
eq_at (fin s m e) (fin t n g) a c b d C D p q =
    rw (p.0, q.0) (and-true _ ∙ same_eq _ _ _ _ a c b d p.1 q.1 (down_pos e) (down_pos g) C D)

pub le_at : (x y : Float) (a c b d : ℕ) → 0 < c → 0 < d → HasValue x false a c → HasValue y false b d
    → le x y ≡ leb (a * d) (b * c)
unfolding le
le_at x y a c b d C D p q = rw (lt_at x y a c b d C D p q, eq_at x y a c b d C D p q) (or_le (a * d) (b * c))
