use Prim.Native.Nat.{◌-◌, ◌≤◌}
use mathlib.Core.Path.{◌≡◌}
use lib.ListN.{length}
use Rattle.near.specs.Near.{Below}
use Rattle.map_search.specs.Lines.{Walk, rest_of, map_of}
use Rattle.asking.specs.Asking.{reached_from, lines_reached}
use Rattle.asking.proofs.walk.Given as goal

abbrev pub invariant-loop-l : goal.invariant-loop-l
invariant-loop-l l =
    let s = l.search in
    let p = s.pricing.now in
    let walk : Walk = record { map = l.map; flags = l.flags; ctx = l.ctx; cost = l.cost } in
    (rest_of s.samples.now p.costs.now p.colors p.n p.lambda s.scan l.head l.bound (s.scan.lines - l.l) l.l walk
    ≡ map_of s.samples.now p.costs.now p.colors p.n p.lambda s.scan l.head l.bound l.initial.map l.initial.flags)
    × (length l.map ≡ length l.initial.map) × (length l.flags ≡ length l.initial.flags) × Below l.map p.n × (l.ctx ≤ 3)
    × (reached_from s.samples.now p.costs.now p.colors p.n p.lambda s.scan l.head l.bound (s.scan.lines - l.l) l.l walk
    ≡ lines_reached s.samples.now p.costs.now p.colors p.n p.lambda s.scan l.head l.bound l.initial.map l.initial.flags)
    × (l.askings.first ≡ 0) × (l.askings.later ≡ l.l - 1)
