use Prim.Native.Nat.{◌-◌, ◌≤◌}
use mathlib.Core.Path.{◌≡◌}
use lib.ListN.{length}
use Rattle.near.specs.Near.{Below}
use Rattle.map_search.specs.Lines.{rest_of, map_of}
use Rattle.map_search.proofs.Search.build_map.Given as goal

abbrev pub invariant-loop-l : goal.invariant-loop-l
invariant-loop-l l =
    let s = l.self in
    let p = s.pricing.now in
    (rest_of s.samples.now p.costs.now p.colors p.n p.lambda s.scan l.head l.bound (s.scan.lines - l.l) l.l
    (record { map = l.map; flags = l.flags; ctx = l.ctx; cost = l.cost })
    ≡ map_of s.samples.now p.costs.now p.colors p.n p.lambda s.scan l.head l.bound l.initial.map l.initial.flags)
    × (length l.map ≡ length l.initial.map) × (length l.flags ≡ length l.initial.flags) × Below l.map p.n × (l.ctx ≤ 3)
