use Rattle.std.proofs.Common.{◌≡◌, refl, sym, ◌∙◌, length, rules}
use Rattle.accept.specs.Accepted.{colors_ok}
use Rattle.lists.proofs.Counted.{within_at}
use Rattle.accept.proofs.Levels.{first_colors_holds, within_first}
use Rattle.accept.proofs.Mapped.colors_ok.Goals as goal

-- More than eight colours are none, else they are the first n. Assumes nothing.
pub returns-then-within : goal.returns-then-within
unfolding colors_ok
returns-then-within c =
    let m = c.args.self.now in
    let eight : length m.colors ≡ 8 = search rules in
    c.levels_ok.ensures
    ∙ sym (rw (
      within_first _ eight m.n,
      sym c.if-within.ensures,
      first_colors_holds _ eight m.n (within_at 2 8 m.n (sym c.if-within.ensures)).1,
    ) refl)

pub returns-else-within : goal.returns-else-within
unfolding colors_ok
returns-else-within c =
    let eight : length c.args.self.now.colors ≡ 8 = search rules in
    c.if-within.false ∙ sym (rw (within_first _ eight c.args.self.now.n, sym c.if-within.ensures) refl)
