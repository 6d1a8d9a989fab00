use Rattle.std.proofs.Common.{ℕ, ◌+◌, ◌≡◌, List, length}
use Rattle.lists.specs.Counted.{up_to}
use Rattle.lists.specs.Written.{written}
use Rattle.emit.specs.declared.IndexMap.{IndexMap}
use Rattle.emit.specs.Lines.{words_in}
use Rattle.emit.specs.Map.{row_context}
use Rattle.emit.proofs.Coder.emit_lines.Given as goal

-- the first l lines are written
pub record Inv (m : IndexMap) (out₀ : List ℕ) (at : ℕ) (out : List ℕ) (pos context l : ℕ) : Type 0 where
  pub told : context ≡ row_context m.flags.now l
  pub size : length out ≡ length out₀
  pub place : pos ≡ at + length (up_to (words_in m) l)
  pub wrote : out ≡ written out₀ at (up_to (words_in m) l)

abbrev pub invariant-loop-l : goal.invariant-loop-l
invariant-loop-l l = Inv l.self.map l.initial.out l.at l.out l.pos l.context l.l
