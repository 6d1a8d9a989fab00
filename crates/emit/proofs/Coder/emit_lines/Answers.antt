use Rattle.std.proofs.Common.{ℕ, ◌≤◌, ◌<◌, ◌+◌, ◌≡◌, refl, sym, ◌∙◌, List, [], ◌∷◌, arith, length, get_or}
use Rattle.lists.specs.Counted.{up_to}
use Rattle.lists.specs.Written.{written}
use Rattle.lists.proofs.Counted.{length_more, up_to_longer}
use Rattle.lists.proofs.Written.{written_more}
use Rattle.literals.specs.Words.{word}
use Rattle.emit.specs.declared.IndexMap.{IndexMap}
use Rattle.emit.specs.Lines.{lines_in, length_in, word_in, words_in}
use Rattle.emit.specs.Map.{sent_cells, row_context, line_words}
use Rattle.emit.proofs.Lines.{line_length, next_context}
use Rattle.emit.proofs.Coder.emit_lines.Invariants.{Inv}
use Rattle.emit.proofs.Coder.emit_lines.Goals as goal

module _ (m : IndexMap) (out₀ : List ℕ) (at : ℕ) (out : List ℕ) (pos context l : ℕ) (v : Inv m out₀ at out pos context l) where
  abbrev flag : ℕ
  flag = get_or m.flags.now l 0

  abbrev count : ℕ
  count = sent_cells flag (length_in m)

  this_length : length (words_in m l) ≡ 1 + count
  this_length = line_length m.n m.transposed m.flags.now m.cells.now m.w (length_in m) l

  -- the room holds this line too
  fits : l < lines_in m → at + length (up_to (words_in m) (lines_in m)) ≤ length out₀ → pos + 1 + count ≤ length out
  fits more h =
      omega (arith, h, v.size, v.place, up_to_longer (words_in m) (l + 1) (lines_in m) (omega arith), length_more (words_in m) l, this_length)

  -- the line's words, as they are sent
  as_sent : words_in m l ≡ word 4 (row_context m.flags.now l) flag ∷ up_to (λ a. word_in m l a ∷ []) count
  unfolding line_words
  as_sent = refl

  turn : (out' : List ℕ) (pos' : ℕ) → pos' ≡ pos + 1 + count
      → out' ≡ written out pos (word 4 context flag ∷ up_to (λ a. word_in m l a ∷ []) count)
      → length out' ≡ length out → Inv m out₀ at out' pos' flag (l + 1)
  turn out' pos' hp ho hs =
      let this : out' ≡ written out pos (words_in m l) = ho ∙ rw (v.told, as_sent) refl in
      record {
        told = sym (next_context m.flags.now l);
        size = hs ∙ v.size;
        place = omega (arith, hp, v.place, length_more (words_in m) l, this_length);
        wrote = this ∙ rw (v.wrote, v.place) (written_more (words_in m) out₀ at l);
      }

-- first the words, then the room that they need: a wrong flag is refused at its word
pub loop-l-preserved : goal.loop-l-preserved
loop-l-preserved c =
    let l = c.loop-l in
    let e = c.emit_line-pos in
    turn c.args.self.now.map _ _ _ _ _ l.l l.invariant e.new.out e.result e.ensures.value e.ensures.out_after e.auto.out

pub emit_line-pos-requires-clause-count_in_bounds : goal.emit_line-pos-requires-clause-count_in_bounds
emit_line-pos-requires-clause-count_in_bounds c =
    let l = c.loop-l in
    fits c.args.self.now.map _ _ _ _ _ l.l l.invariant (rw c.lines_of-l-end.ensures at c.loop-l-test.true) c.requires
