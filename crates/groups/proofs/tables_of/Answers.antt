use denote.Struct.Props.{props}
use lib.Ieee.{of_bits, div}
use mathlib.Core.Logic.{∥∥₁_elim}
use Rattle.groups.proofs.Means.{counts_fit, sums_fit, squares_fit}
use Rattle.groups.proofs.Rows.{first_row, next_row_tabled}
use Rattle.groups.proofs.tables_of.Goals as goal

pub prefix-requires : goal.prefix-requires
prefix-requires c = ∥∥₁_elim c.requires.1.1 (hlevel props) (λ v. counts_fit v.0 c.args.h.now v.1)

pub prefix-requires-2 : goal.prefix-requires-2
prefix-requires-2 c = ∥∥₁_elim c.requires.1.1 (hlevel props) (λ v. sums_fit v.0 c.args.h.now v.1)

pub prefix-requires-3 : goal.prefix-requires-3
prefix-requires-3 c = ∥∥₁_elim c.requires.1.1 (hlevel props) (λ v. squares_fit v.0 c.args.h.now v.1)

pub loop-k-init : goal.loop-k-init
unfolding of_bits div
loop-k-init c = first_row _ _ _ c.args.h.now.n _ c.requires.1.0

pub loop-k-preserved : goal.loop-k-preserved
loop-k-preserved c =
    let l = c.loop-k in
    next_row_tabled _ _ _ c.args.h.now.n l.k _ _ _ _ c.requires.1.0 l.invariant c.fill_row.ensures
