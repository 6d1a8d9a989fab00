use mathlib.Core.Path.{◌≡◌, refl, ap, ◌∙◌}
use Prim.Native.Nat.{ℕ, suc, ◌+◌, ◌-◌, ◌*◌, ◌≤◌, ◌<◌}
use mathlib.Core.List.{List}
use native.Mathlib.Omega.{arith}
use native.Mathlib.Nat.{le_trans}
use lib.ListN.{get_or, replicate}
use denote.Struct.Props.{props}
use mathlib.Core.Logic.{∥∥₁_elim}
use Rattle.lists.specs.Written.{written}
use Rattle.groups.specs.declared.Histogram.{Histogram}
use Rattle.groups.specs.Groups.{colors_of, prefix_of}
use Rattle.groups.specs.Tables.{CutsOf}
use Rattle.groups.proofs.Cuts.{traced, traced_is, cut_from, cut_to_holds}
use Rattle.groups.proofs.Colors.{placed}
use Rattle.groups.proofs.Means.{weight, mean_below, cells_to}
use Rattle.groups.proofs.centers.Goals as goal

-- where the last of g + 1 groups starts
record Cut (cuts : List ℕ) (g j : ℕ) : Type 0 where
  from : g ≤ get_or cuts (g * 33 + 33 + j) 0
  to : get_or cuts (g * 33 + 33 + j) 0 < j

cut : (h : Histogram) (k : ℕ) (cuts : List ℕ) (g j : ℕ) → CutsOf h k cuts → g < k → g < j → j ≤ h.n → Cut cuts g j
cut h k cuts g j of few fewer in-h =
    let is = of g j (omega arith) in-h in record {
      from = rw is (cut_from (prefix_of h.w) (prefix_of h.s) (prefix_of h.q) g j);
      to = rw is (cut_to_holds (prefix_of h.w) (prefix_of h.s) (prefix_of h.q) g j fewer);
    }

pub color-requires : goal.color-requires
color-requires c =
    let a = c.args in
    let h = a.h.now in
    let l = c.loop-g in
    let i = l.invariant in
    let t = cut h a.k a.cuts.now (l.g - 1) l.j c.requires.3 (omega arith) (omega arith) i.1 in
    let n : l.j ≤ 32 = le_trans i.1 c.requires.2.0 in
    ∥∥₁_elim c.requires.2.1 (hlevel props) (λ v. (
      t.to,
      n,
      cells_to v.0 h v.1 l.j n,
      weight v.0 h v.1 _ l.j t.to i.1,
      mean_below v.0 h v.1 _ l.j t.to i.1 4095 (λ m p q. v.1.top m),
    ))

pub loop-g-preserved : goal.loop-g-preserved
loop-g-preserved c =
    let a = c.args in
    let h = a.h.now in
    let l = c.loop-g in
    let i = l.invariant in
    let g = l.g - 1 in
    let t = cut h a.k a.cuts.now g l.j c.requires.3 (omega arith) (omega arith) i.1 in
    let e : l.g ≡ suc g = omega arith in (
      t.from,
      omega (arith, t.to),
      placed h.w h.s a.cuts.now l.colors g l.j _ _ refl c.color.ensures ∙ (rw e at i.2),
    )

pub returns : goal.returns
unfolding traced colors_of written
returns c =
    let l = c.loop-g in
    let h = c.args.h.now in
    let e : l.g ≡ 0 = omega arith in
    (rw e at l.invariant.2) ∙ ap (λ z. written (replicate 8 0) 0 (colors_of h.w h.s h.n z))
    (traced_is h c.args.k c.args.cuts.now c.requires.3 c.args.k h.n (omega arith) c.requires.1 (omega arith))
