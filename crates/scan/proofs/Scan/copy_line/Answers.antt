use mathlib.Core.List.{List}
use Rattle.scan.proofs.Fill.{fill_other}
use Rattle.scan.specs.Scan.{place_at, cell_in, fill}
use native.Mathlib.Numerals.{add-one}
use lib.ListN.{set}
use Prim.Native.Nat.{ℕ, ◌-◌}
use native.Mathlib.Omega.{arith}
use mathlib.Core.Path.{◌≡◌, refl, ap}
use Rattle.scan.proofs.Scan.copy_line.Goals as goal

pub loop-a-init : goal.loop-a-init
unfolding fill
loop-a-init c = refl

-- what is read is what stood there at first
pub loop-a-preserved : goal.loop-a-preserved
unfolding fill
loop-a-preserved c =
    let a = c.args in
    let l = c.loop-a in
    let read : cell_in l.map a.self (a.l - 1) l.a ≡ cell_in a.map.now a.self (a.l - 1) l.a =
    rw l.invariant
    (fill_other a.self _ c.requires.0 a.l c.requires.1 (λ b. cell_in a.map.now a.self (a.l - 1) b) a.map.now l.a (a.l - 1) l.a
    (omega (arith, c.requires.1)) (λ e. omega (arith, c.requires.2)) c.loop-a-test.true (omega arith)) in
    let written : List ℕ → List ℕ = λ m. set m (place_at a.self a.l l.a) (cell_in a.map.now a.self (a.l - 1) l.a) in
    rw (add-one, fill, c.place-in-loop-a.ensures, c.place.ensures, read) (ap written l.invariant)
