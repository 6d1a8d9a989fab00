use native.Mathlib.Omega.{arith}
use borrow.Author.Tests.{eq-eqb}
use Prim.Native.Nat.{ℕ, ◌<◌}
use mathlib.Core.Path.{◌≡◌, sym}
use Rattle.reporting.specs.Fraction.{gcd, fraction}
use Rattle.reporting.proofs.Lowest.{gcd_pos, fraction_is}
use Rattle.reporting.proofs.fraction_of.Goals as goal

some : (c : goal.After-gcd_of-g) → 0 < c.args.b
some c = omega (arith, c.if-b-eq0.false)

pos : (g a b : ℕ) → g ≡ gcd a b → 0 < b → 0 < g
pos g a b e h = rw e (gcd_pos a b h)

pub returns-then-b-eq0 : goal.returns-then-b-eq0
unfolding fraction
returns-then-b-eq0 c = sym (simp (eq-eqb _ _ c.if-b-eq0.true))

pub nonzero_div-result : goal.nonzero_div-result
nonzero_div-result c = pos _ _ _ c.gcd_of-g.ensures (some c)

pub nonzero_div-result-2 : goal.nonzero_div-result-2
nonzero_div-result-2 c = pos _ _ _ c.gcd_of-g.ensures (some c)

pub returns : goal.returns
returns c = rw c.gcd_of-g.ensures (sym (fraction_is _ _ (some c)))
