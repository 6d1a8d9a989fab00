use mathlib.Core.Path.{◌≡◌, refl, ap, ◌∙◌}
use Prim.Native.Nat.{◌<◌}
use native.Mathlib.Omega.{arith}
use lib.ListN.{length}
use Rattle.lists.specs.Written.{written}
use Rattle.literals.specs.Literals.{literal_words}
use Rattle.literals.proofs.Levels.{level_at}
use Rattle.literals.proofs.Widths.{level_fits}
use Rattle.literals.proofs.Colors.{none_at_all, first_word}
use Rattle.literals.proofs.emit_literals.Goals as goal

pub put_bypass-next-requires : goal.put_bypass-next-requires
put_bypass-next-requires c =
    let some = c.in-len1-up.len_at_least in
    let words = first_word c.args.bd c.args.colors.now some in
    let space : c.args.at < length c.args.out.now = omega (arith, c.requires.colors_in_bounds, ap length words) in
    let most = level_at c.args.bd c.args.colors.now c.requires.levels.2 0 some in
    (omega (arith, c.requires.levels.1), omega (arith, c.from.ensures, level_fits c.args.bd c.requires.levels.1 _ most), space)

pub emit_more-requires : goal.emit_more-requires
emit_more-requires c =
    let cs = c.args.colors.now in
    let words = first_word c.args.bd cs c.in-len1-up.len_at_least in
    let put = c.put_bypass-next in
    let kept : length put.new.out ≡ length c.args.out.now = put.auto.out in
    omega (arith, put.ensures.0, ap length words, c.requires.colors_in_bounds, kept)

pub returns-in-empty : goal.returns-in-empty
unfolding literal_words written
returns-in-empty c =
    let none = none_at_all c.args.colors.now c.in-empty.len_below in
    rw none (record { value = omega arith; out_after = refl })

pub returns-in-len1-up : goal.returns-in-len1-up
unfolding written
returns-in-len1-up c =
    let words = first_word c.args.bd c.args.colors.now c.in-len1-up.len_at_least in
    let rest = c.emit_more in
    let put = c.put_bypass-next in
    rw words
    (record { value = omega (arith, rest.ensures.value, put.ensures.0); out_after = rest.ensures.out_after ∙ rw (put.ensures.1, put.ensures.0, c.from.ensures) refl })
