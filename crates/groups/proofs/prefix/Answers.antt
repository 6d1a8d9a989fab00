use mathlib.Core.Path.{◌≡◌, refl, sym, ap, ◌∙◌}
use Prim.Native.Nat.{◌+◌}
use native.Mathlib.Omega.{arith}
use native.Mathlib.Numerals.{add-one}
use native.Mathlib.Nat.{ne_of_lt}
use lib.ListN.{get_or, set, length-set}
use lib.Seq.{get_or-set_same, get_or-set_other, ext_get_or}
use lib.Ieee.{Float, nan, binary64, add, of_bits}
use borrow.Author.Count.{below_more}
use Rattle.ieee.specs.Numbers.{nat}
use Rattle.groups.specs.Groups.{prefix_of}
use Rattle.groups.proofs.Sums.{sums_first, sums_length, sums_next}
use Rattle.groups.proofs.prefix.Goals as goal

pub loop-i-init : goal.loop-i-init
loop-i-init c = (refl, λ k h. let e : k ≡ 0 = omega arith in rw e (sym (sums_first (of_bits binary64 0) c.args.xs.now)))

pub loop-i-preserved : goal.loop-i-preserved
loop-i-preserved c =
    let l = c.loop-i in
    let xs = c.args.xs.now in
    let i = l.i in
    let v : Float = add binary64 (get_or l.out i nan) (nat binary64 (get_or xs i 0)) in
    let e : v ≡ get_or (prefix_of xs) (i + 1) nan =
    ap (λ z. add binary64 z (nat binary64 (get_or xs i 0))) (l.invariant.1 i (omega arith))
    ∙ sym (rw add-one (sums_next (of_bits binary64 0) xs i (omega arith))) in (
      length-set l.out (i + 1) v ∙ l.invariant.0,
      below_more (λ k. get_or (set l.out (i + 1) v) k nan ≡ get_or (prefix_of xs) k nan) (i + 1)
          (λ k h. get_or-set_other l.out (i + 1) k v nan (ne_of_lt h) ∙ l.invariant.1 k h)
          (get_or-set_same l.out (i + 1) v nan (omega arith) ∙ e),
    )

pub returns : goal.returns
returns c =
    let l = c.loop-i in
    let xs = c.args.xs.now in
    ext_get_or nan l.out (prefix_of xs) (omega (arith, sums_length (of_bits binary64 0) xs))
    (λ i h. l.invariant.1 i (omega arith))
