-- The lines of an `IndexMap`, and their words.
use Rattle.std.specs.Prelude.{ℕ, List}
use Rattle.context.specs.Map.{lines_of, length_of}
use Rattle.emit.specs.Map.{line_word, line_words}
use Rattle.emit.specs.declared.IndexMap.{IndexMap}

abbrev pub lines_in : IndexMap → ℕ
lines_in m = lines_of m.transposed m.w m.h

abbrev pub length_in : IndexMap → ℕ
length_in m = length_of m.transposed m.w m.h

-- the word of place a of line l
abbrev pub word_in : IndexMap → ℕ → ℕ → ℕ
word_in m l a = line_word m.n m.transposed m.cells.now m.w l a

-- the words of line l
abbrev pub words_in : IndexMap → ℕ → List ℕ
words_in m l = line_words m.n m.transposed m.flags.now m.cells.now m.w (length_in m) l
