use Rattle.std.proofs.Common.{ℕ, ◌+◌, ◌-◌, ◌≡◌, refl, ◌∙◌, List, ◌∷◌, ◌++◌, arith, length, length-append}
use Rattle.lists.specs.Written.{written}
use Rattle.lists.proofs.Written.{written_append}
use Rattle.literals.specs.Words.{word}
use Rattle.literals.specs.Literals.{literal_words}
use Rattle.literals.proofs.Levels.{levels_ascend}
use Rattle.emit.specs.Colors.{cache_words, untaken, color_words}
use Rattle.emit.proofs.Untaken.{levels_untaken}
use Rattle.emit.proofs.emit_colors.Goals as goal

-- the size, the cache bits, the literals
module _ (bd : ℕ) (cache cs : List ℕ) where
  abbrev literals : List ℕ
  literals = literal_words bd (untaken cache cs)

  parts : color_words bd cache cs ≡ word 3 0 (length cs - 2) ∷ (cache_words cache cs ++ literals)
  unfolding color_words
  parts = refl

  sum : length (color_words bd cache cs) ≡ 1 + length (cache_words cache cs) + length literals
  sum = rw parts (omega (arith, length-append (cache_words cache cs) literals))

pub put-next-requires : goal.put-next-requires
put-next-requires c = omega (arith, c.requires.colors_in_bounds, sum c.args.bd c.args.cache.now c.args.colors.now)

pub new-requires : goal.new-requires
new-requires c = (c.requires.le_n.1, levels_ascend c.args.bd c.args.colors.now c.requires.le_n.4)

pub emit_cache_bits-sent-requires : goal.emit_cache_bits-sent-requires
emit_cache_bits-sent-requires c =
    let p = c.put-next in
    rw c.new.ensures.1 (omega (arith, c.requires.colors_in_bounds, sum c.args.bd c.args.cache.now c.args.colors.now, p.ensures.0, p.auto.out))

pub emit_literals-requires : goal.emit_literals-requires
emit_literals-requires c =
    let a = c.args in
    let p = c.put-next in
    let e = c.emit_cache_bits-sent in
    let next = rw c.new.ensures.1 at e.ensures.next_value in
    rw (e.ensures.colors_value, c.new.ensures.1) (record {
      levels = (c.requires.le_n.2, c.requires.le_n.3, levels_untaken a.bd a.cache.now a.colors.now c.requires.le_n.4);
      colors_in_bounds =
          omega (arith, c.requires.colors_in_bounds, sum a.bd a.cache.now a.colors.now, p.ensures.0, p.auto.out, next, e.auto.out);
    })

pub returns : goal.returns
unfolding written
returns c =
    let a = c.args in
    let colors = a.colors.now in
    let cache = a.cache.now in
    let e = c.emit_cache_bits-sent in
    let l = c.emit_literals in
    let next = rw c.new.ensures.1 at e.ensures.next_value in record {
      value = omega (
        arith,
        rw (e.ensures.colors_value, c.new.ensures.1) at l.ensures.value,
        next,
        c.put-next.ensures.0,
        sum a.bd cache colors,
      );
      out_after = (rw (e.ensures.colors_value, c.new.ensures.1) at l.ensures.out_after)
          ∙ rw (
            e.ensures.out_after,
            e.ensures.next_value,
            c.new.ensures.1,
            c.put-next.ensures.1,
            c.put-next.ensures.0,
            c.call.ensures,
            parts a.bd cache colors,
          )
          (written_append _ (a.at + 1) (cache_words cache colors) (literals a.bd cache colors));
    }
