use native.Mathlib.Numerals.{add-one}
use native.Mathlib.Omega.{arith}
use mathlib.Core.Path.{◌≡◌, refl, ap, ◌∙◌}
use Prim.Native.Nat.{ℕ}
use Rattle.cells.specs.Cell.{eight}
use Rattle.map_search.specs.Lines.{dist_line}
use Rattle.map_search.proofs.Distances.const_dists.Goals as goal

pub loop-a-init : goal.loop-a-init
unfolding dist_line
loop-a-init c = refl

pub loop-a-preserved : goal.loop-a-preserved
unfolding dist_line
loop-a-preserved c = rw (add-one, dist_line, c.add_squares-u.ensures, c.place-p.ensures, c.loop-a.invariant) refl

pub returns : goal.returns
returns c =
    let s = c.args.self.now in
    let all : c.loop-a.a ≡ s.scan.len = omega (arith, c.loop-a-test.false, c.loop-a.auto.a-end) in
    c.loop-a.invariant
    ∙ ap (λ (k : ℕ). eight (λ i. dist_line s.samples.now s.colors.now s.scan c.args.l (λ b. i) k)) all
