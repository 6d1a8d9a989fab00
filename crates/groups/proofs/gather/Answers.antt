use mathlib.Core.Path.{◌≡◌, refl, ap, ◌∙◌}
use Prim.Native.Nat.{ℕ, ◌*◌}
use native.Mathlib.Omega.{arith}
use lib.ListN.{length, get_or, set}
use Rattle.lists.specs.Written.{written}
use Rattle.lists.specs.Counted.{up_to}
use Rattle.groups.specs.declared.Histogram.{Histogram}
use Rattle.groups.proofs.Levels.{one_level, no_level}
use Rattle.groups.proofs.gather.Goals as goal
use Rattle.groups.proofs.gather.Goals.{then-c-ne0, else-c-ne0}

pub loop-v-init : goal.loop-v-init
unfolding up_to written
loop-v-init c = (omega arith, refl)

pub loop-v-preserved : goal.loop-v-preserved
loop-v-preserved c =
    let l = c.loop-v in
    let v = l.v in
    let count = λ (x : ℕ). get_or c.args.counts.now x 0 in
    let old : Histogram = record { n = l.n; w = l.w; s = l.s; q = l.q } in
    let is : c.from-c.result ≡ count v = c.from-c.ensures in
    elim c.if-c-ne0.branch [
      | then-c-ne0 k ↦ (
        omega (arith, k.n-is),
        one_level count v old _ _ _ _ l.invariant.1 (λ z. k.if-c-ne0.true (is ∙ z)) k.n-is
            (k.w-is ∙ k.put.ensures ∙ ap (set l.w l.n) is)
            (k.s-is ∙ k.put-then-c-ne0.ensures ∙ ap (λ x. set l.s l.n (x * v)) is)
            (k.q-is ∙ k.put-then-c-ne0-2.ensures ∙ ap (λ x. set l.q l.n (x * (v * v))) is),
      )
      | else-c-ne0 k ↦ (
        omega (arith, k.n-is),
        cc (l.invariant.1, k.w-is, k.s-is, k.q-is, k.n-is, no_level count v (rw is at k.if-c-ne0.false)),
      )
    ]

pub returns : goal.returns
returns c =
    let l = c.loop-v in
    let e : l.v ≡ length c.args.counts.now = omega arith in
    rw (← e) l.invariant.1
