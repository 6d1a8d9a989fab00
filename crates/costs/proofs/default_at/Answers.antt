use mathlib.Core.Path.{ap, ◌∙◌}
use Prim.Native.Nat.{◌-◌}
use native.Mathlib.Omega.{arith}
use lib.ListN.{length, get_or}
use borrow.Author.Tests.{lt-ltb, le-ltb}
use Rattle.tables.proofs.Flat as flat
use Rattle.costs.proofs.Defaults.{by_place_is}
use Rattle.costs.proofs.default_at.Goals as goal

pub returns-in-0 : goal.returns-in-0
returns-in-0 c = simp (lt-ltb c.args.k 1 (omega arith)) at (by_place_is _ c.requires.1)

pub returns-in-1-to-6 : goal.returns-in-1-to-6
returns-in-1-to-6 c =
    c.y_size_icdf.ensures
    ∙ simp (le-ltb c.args.k 1 (omega arith), lt-ltb c.args.k 7 (omega arith)) at (by_place_is _ c.requires.1)

pub returns-in-7-to-14 : goal.returns-in-7-to-14
returns-in-7-to-14 c =
    c.row_icdf.ensures
    ∙ simp (le-ltb c.args.k 1 (omega arith), le-ltb c.args.k 7 (omega arith), lt-ltb c.args.k 15 (omega arith)) at
    (by_place_is _ c.requires.1)

pub bounds-colors-k : goal.bounds-colors-k
bounds-colors-k c = omega (arith, ap length c.requires.0, flat.count)

pub returns-in_default : goal.returns-in_default
returns-in_default c =
    ap (λ l. get_or l (c.args.k - 15) 0) c.requires.0
    ∙ simp (le-ltb c.args.k 1 (omega arith), le-ltb c.args.k 7 (omega arith), le-ltb c.args.k 15 (omega arith)) at
    (by_place_is _ c.requires.1)
