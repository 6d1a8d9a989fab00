use mathlib.Core.Path.{◌≡◌, refl, ◌∙◌}
use Prim.Native.Nat.{ℕ, ◌*◌, ◌≤◌, ◌<◌}
use native.Mathlib.Nat.{mul-pos, zero-lt-suc, div-lt_iff_lt-mul}
use native.Mathlib.Omega.{arith}
use Rattle.groups.specs.Groups.{sum_in}
use Rattle.groups.proofs.Sums.{sum_range}
use Rattle.groups.proofs.color.Goals as goal

pub total-dw-requires : goal.total-dw-requires
total-dw-requires c = let a = c.args in omega (arith, sum_range a.h.now.w a.i a.j (omega arith) (omega arith))

pub total-ds-requires : goal.total-ds-requires
total-ds-requires c = let a = c.args in omega (arith, sum_range a.h.now.s a.i a.j (omega arith) (omega arith))

-- the sums
record Totals (w s dw ds : ℕ) : Type 0 where
  weight : dw ≡ w
  sum : ds ≡ s
  some : 0 < dw
  few : dw ≤ 4096
  mean : ds ≤ 4095 * dw

totals : (c : goal.After-total-ds)
    → let a = c.args in let h = a.h.now in
    Totals (sum_in h.w a.i a.j) (sum_in h.s a.i a.j) c.total-dw.result c.total-ds.result
totals c =
    let a = c.args in
    let w = c.total-dw.ensures ∙ sum_range a.h.now.w a.i a.j (omega arith) (omega arith) in
    let s = c.total-ds.ensures ∙ sum_range a.h.now.s a.i a.j (omega arith) (omega arith) in
    record { weight = w; sum = s; some = omega arith; few = omega arith; mean = rw (w, s) c.requires.4 }

pub overflow_mul-result : goal.overflow_mul-result
overflow_mul-result c = omega (arith, totals c)

pub overflow_add-result : goal.overflow_add-result
overflow_add-result c = omega (arith, totals c)

pub overflow_mul-result-2 : goal.overflow_mul-result-2
overflow_mul-result-2 c = omega (arith, totals c)

pub nonzero_div-result : goal.nonzero_div-result
nonzero_div-result c = omega (arith, totals c)

pub overflow_cast-result : goal.overflow_cast-result
overflow_cast-result c =
    let m = totals c in
    record { fits = (div-lt_iff_lt-mul (mul-pos (zero-lt-suc 1) m.some)).1 (omega (arith, m)) }

pub returns : goal.returns
returns c = let m = totals c in rw (m.weight, m.sum) refl
