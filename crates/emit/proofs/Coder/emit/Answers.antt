use Rattle.std.proofs.Common.{ℕ, ◌+◌, ◌≡◌, refl, ◌∙◌, List, ◌++◌, arith, length, length-append}
use Rattle.lists.specs.Counted.{up_to}
use Rattle.lists.proofs.Written.{written_append}
use Rattle.emit.specs.declared.IndexMap.{IndexMap}
use Rattle.emit.specs.Lines.{lines_in, words_in}
use Rattle.emit.specs.Map.{orient_words, map_words}
use Rattle.emit.proofs.Coder.emit.Goals as goal

-- the orientation, then the lines
module _ (m : IndexMap) where
  abbrev orient : List ℕ
  orient = orient_words m.w m.h m.transposed

  abbrev lines : List ℕ
  lines = up_to (words_in m) (lines_in m)

  abbrev all : List ℕ
  all = map_words m.n m.transposed m.flags.now m.cells.now m.w m.h

  parts : all ≡ orient ++ lines
  unfolding map_words
  parts = refl

  sum : length all ≡ length orient + length lines
  sum = rw parts (length-append orient lines)

pub returns : goal.returns
returns c =
    let m = c.args.self.now.map in
    let o = c.emit_orientation-next in
    let e = c.emit_lines in record {
      value = omega (arith, e.ensures.value, o.ensures.value, sum m);
      out_after = e.ensures.out_after
          ∙ rw (o.ensures.value, o.ensures.out_after, parts m) (written_append c.args.out.now c.args.at (orient m) (lines m));
    }
