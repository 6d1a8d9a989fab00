use Rattle.std.proofs.Common.{◌≡◌, sym, length, rules}
use Rattle.accept.specs.Accepted.{map_ok}
use Rattle.accept.proofs.Levels.{length_first}
use Rattle.accept.proofs.Mapped.map_ok.Goals as goal

pub returns-then-indices_ok : goal.returns-then-indices_ok
unfolding map_ok
returns-then-indices_ok c =
    let m = c.args.self.now in
    let eight : length m.colors ≡ 8 = search rules in
    rw (length_first m.colors eight m.n c.requires.few, sym c.if-indices_ok.ensures) c.lines_ok.ensures

pub returns-else-indices_ok : goal.returns-else-indices_ok
unfolding map_ok
returns-else-indices_ok c =
    let m = c.args.self.now in
    let eight : length m.colors ≡ 8 = search rules in
    rw (length_first m.colors eight m.n c.requires.few, sym c.if-indices_ok.ensures) c.if-indices_ok.false
