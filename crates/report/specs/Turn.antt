-- Document 02, L1: one turn of the program's loop, as `run` of crate reporting has it. That the bytes which come into view are
-- those of the input, in their order, and that there are none left once a read has left room in the buffer, is what the C library's
-- read is trusted for.
use Rattle.std.specs.Prelude.{ℕ, ◌≤◌, ◌≡◌, List, drop}
use Rattle.window.specs.declared.Window.{Window}
use Rattle.window.specs.Window.{view, Inside, Holds}
use Rattle.reporting.specs.declared.Page.{Page}
use Rattle.reporting.specs.Steps.{Steps}
use Rattle.report.specs.declared.Turned.{Turned}

-- more is read behind what is before the program, unless as much is there as a palette can take; the step is over what is there
-- then; the next turn has before it what the step left
pub record Turns (w : Window) (p : Page) (old new before after : List ℕ) (r : Turned) : Type 0 where
  pub need : ℕ
  pub palette : 33972 ≤ need
  pub held : Window
  pub holds : Holds need w old held new
  pub steps : Steps (view held new) p before after (record { count = r.count; taken = r.taken; page = r.page })
  pub left : view r.window new ≡ drop r.taken (view held new)
  pub inside : Inside r.window new
  pub more : r.window.more ≡ held.more
