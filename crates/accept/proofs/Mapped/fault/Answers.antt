use Rattle.std.proofs.Common.{◌≡◌, sym, length, rules}
use Rattle.accept.specs.Mapped.{palette_in}
use Rattle.accept.proofs.Accepted.{sides_at, counts_at}
use Rattle.accept.proofs.Levels.{few_given}
use Rattle.accept.proofs.Mapped.fault.Goals as goal

pub counts_ok-requires : goal.counts_ok-requires
counts_ok-requires c =
    let s = sides_at _ _ (sym c.if-not-sides_ok.ensures) in
    (s.0.1, s.1.1)

pub map_ok-requires : goal.map_ok-requires
map_ok-requires c =
    let m = c.args.self.now in
    let eight : length m.colors ≡ 8 = search rules in
    let k = counts_at m.width m.height (palette_in m) (sym c.if-not-counts_ok.ensures) in
    record { few = few_given m.colors eight m.bd m.n (sym c.if-not-colors_ok.ensures); map_len = k.0; flags_len = k.1 }
