-- A strict order by size of floats that are not negative, and how it goes with `Grows`. Assumes nothing.
use Prim.Native.Nat.{ℕ, ◌+◌, ◌*◌, ◌≤◌, ◌<◌}
use mathlib.Core.Path.{◌≡◌, refl, sym, ◌∙◌}
use mathlib.Core.Bool.{true, false, true≢false, false≢true}
use mathlib.Core.Logic.{inl, inr}
use native.Mathlib.Nat.{zero-mul}
use native.Mathlib.Omega.{arith}
use lib.Dec.{T}
use lib.Ieee.{Float, nan, inf, fin, up, down, lt, add, fits, binary32}
use lib.Ieee.Positive.{through}
use native.Mathlib.Decide.{dec_lt}
use lib.Ieee.Fits.{down_pos}
use borrow.Author.Tests.{ltb-true, lt-ltb, le-ltb}
use Rattle.ieee.specs.Bounds.{NotNeg}
use Rattle.ieee.proofs.Grows.{Grows, grows_refl, grows_trans}
use Rattle.ieee.proofs.Signs.{add_not_neg}
use Rattle.ieee.proofs.Monotone.{add_grows, add_self}

-- x is finite, and y larger in size, or infinite
abbrev pub Less : Float → Float → Type 0
Less nan y = ⊥
Less (inf s) y = ⊥
Less (fin s m e) nan = ⊥
Less (fin s m e) (inf t) = Unit {0}
Less (fin s m e) (fin t n d) = m * up e * down d < n * up d * down e

-- x is no nan
abbrev pub Real : Float → Type 0
Real x = Grows x (inf false)

pub less_of_lt : (x y : Float) → NotNeg x → NotNeg y → lt x y ≡ true → Less x y
unfolding lt
less_of_lt nan y p q h = absurd (false≢true h)
less_of_lt (inf s) nan p q h = absurd (false≢true h)
less_of_lt (inf s) (inf t) p q h = absurd (false≢true (rw p at h))
less_of_lt (inf s) (fin t n d) p q h = absurd (false≢true (sym p ∙ h))
less_of_lt (fin s m e) nan p q h = absurd (false≢true h)
less_of_lt (fin s m e) (inf t) p q h = tt
less_of_lt (fin false m e) (fin false n d) p q h = ltb-true _ _ h
less_of_lt (fin false m e) (fin true n d) p q h = absurd (false≢true h)
less_of_lt (fin true m e) (fin false n d) (inl p) q h = absurd (true≢false p)
less_of_lt (fin true m e) (fin false n d) (inr p) q h =
    let z : m * up e * down d ≡ 0 = simp (p, zero-mul) in
    omega (arith, z, ltb-true 0 (m * up e * down d + n * up d * down e) h)
less_of_lt (fin true m e) (fin true n d) (inl p) q h = absurd (true≢false p)
less_of_lt (fin true m e) (fin true n d) (inr p) q h =
    let z : m * up e * down d ≡ 0 = simp (p, zero-mul) in
    absurd (omega (arith, z, ltb-true (n * up d * down e) (m * up e * down d) h))

pub lt_of_less : (x y : Float) → NotNeg x → NotNeg y → Less x y → lt x y ≡ true
unfolding lt
lt_of_less nan y p q h = absurd h
lt_of_less (inf s) y p q h = absurd h
lt_of_less (fin s m e) nan p q h = absurd h
lt_of_less (fin s m e) (inf t) p q h = rw q refl
lt_of_less (fin false m e) (fin false n d) p q h = lt-ltb _ _ h
lt_of_less (fin false m e) (fin true n d) p (inl q) h = absurd (true≢false q)
lt_of_less (fin false m e) (fin true n d) p (inr q) h =
    let z : n * up d * down e ≡ 0 = simp (q, zero-mul) in
    absurd (omega (arith, z, h))
lt_of_less (fin true m e) (fin false n d) p q h = lt-ltb 0 (m * up e * down d + n * up d * down e) (omega (arith, h))
lt_of_less (fin true m e) (fin true n d) p (inl q) h = absurd (true≢false q)
lt_of_less (fin true m e) (fin true n d) p (inr q) h =
    let z : n * up d * down e ≡ 0 = simp (q, zero-mul) in
    absurd (omega (arith, z, h))

-- not the other way round
pub less_back : (x y : Float) → NotNeg x → NotNeg y → Less x y → lt y x ≡ false
unfolding lt
less_back nan y p q h = absurd h
less_back (inf s) y p q h = absurd h
less_back (fin s m e) nan p q h = absurd h
less_back (fin s m e) (inf t) p q h = q
less_back (fin false m e) (fin false n d) p q h = le-ltb (n * up d * down e) (m * up e * down d) (omega (arith, h))
less_back (fin true m e) (fin false n d) p q h = refl
less_back (fin s m e) (fin true n d) p (inl q) h = absurd (true≢false q)
less_back (fin s m e) (fin true n d) p (inr q) h =
    let z : n * up d * down e ≡ 0 = simp (q, zero-mul) in
    absurd (omega (arith, z, h))

-- through one in the middle
behind : (a b c x y z : ℕ) → 0 < x → a * y ≤ b * x → b * z < c * y → a * z < c * x
behind a b c x y z p h g =
    elim (dec_lt (a * z) (c * x)) [
      | yes s ↦ s
      | no s ↦ absurd (omega (arith, g, through c a b z x y p (omega (arith, s)) h))
    ]

ahead : (a b c x y z : ℕ) → 0 < z → a * y < b * x → b * z ≤ c * y → a * z < c * x
ahead a b c x y z p h g =
    elim (dec_lt (a * z) (c * x)) [
      | yes s ↦ s
      | no s ↦ absurd (omega (arith, h, through b c a y z x p g (omega (arith, s))))
    ]

pub grows_less : (x y z : Float) → Grows x y → Less y z → Less x z
grows_less x nan z g h = absurd h
grows_less x (inf t) z g h = absurd h
grows_less nan (fin t n d) z g h = absurd g
grows_less (inf s) (fin t n d) z g h = absurd g
grows_less (fin s m e) (fin t n d) nan g h = absurd h
grows_less (fin s m e) (fin t n d) (inf u) g h = tt
grows_less (fin s m e) (fin t n d) (fin u k c) g h =
    behind (m * up e) (n * up d) (k * up c) (down e) (down d) (down c) (down_pos e) g h

pub less_grows : (x y z : Float) → Less x y → Grows y z → Real z → Less x z
less_grows nan y z h g r = absurd h
less_grows (inf s) y z h g r = absurd h
less_grows (fin s m e) y nan h g r = absurd r
less_grows (fin s m e) y (inf u) h g r = tt
less_grows (fin s m e) nan (fin u k c) h g r = absurd h
less_grows (fin s m e) (inf t) (fin u k c) h g r = absurd g
less_grows (fin s m e) (fin t n d) (fin u k c) h g r =
    ahead (m * up e) (n * up d) (k * up c) (down e) (down d) (down c) (down_pos c) h g

less_real : (x y : Float) → Less x y → Real y
less_real nan y h = absurd h
less_real (inf s) y h = absurd h
less_real (fin s m e) nan h = absurd h
less_real (fin s m e) (inf t) h = tt
less_real (fin s m e) (fin t n d) h = tt

-- a sum that is less than another value has no nan in it
part_real : (x y z : Float) → Less (add binary32 x y) z → Real y
unfolding add
part_real nan y z h = absurd h
part_real (inf s) nan z h = absurd h
part_real (inf s) (inf t) z h = tt
part_real (inf s) (fin t n d) z h = tt
part_real (fin s m e) nan z h = absurd h
part_real (fin s m e) (inf t) z h = tt
part_real (fin s m e) (fin t n d) z h = tt

real_sum : (x y : Float) → NotNeg x → NotNeg y → Real x → Real y → Real (add binary32 x y)
unfolding add
real_sum x y p q r t = add_grows binary32 x (inf false) y (inf false) p refl q refl r t

-- d more than most less than e: whatever up to most is added to each, it stays less
pub always_less : (d e most u v : Float) → NotNeg d → NotNeg e → NotNeg most → NotNeg u → NotNeg v → T (fits binary32 e)
    → Grows u most → Grows v most → lt (add binary32 d most) e ≡ true → Less (add binary32 d u) (add binary32 e v)
always_less d e most u v p q k l m t g h less =
    let top = less_of_lt (add binary32 d most) e (add_not_neg binary32 d most p k) q less in
    let real = part_real d most e top in
    less_grows (add binary32 d u) e (add binary32 e v)
    (grows_less (add binary32 d u) (add binary32 d most) e (add_grows binary32 d d u most p p l k (grows_refl d) g) top)
    (add_self binary32 e v q m t)
    (real_sum e v q m (less_real (add binary32 d most) e top) (grows_trans v most (inf false) h real))
