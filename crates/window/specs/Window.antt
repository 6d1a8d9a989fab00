-- A window on an input: part of a buffer is before the program.
use Rattle.std.specs.Prelude.{ℕ, ◌-◌, ◌≤◌, ◌<◌, ◌≡◌, true, false, List, ◌⊎◌, length, take, drop}
use Rattle.window.specs.declared.Window.{Window}

-- nothing was read yet
abbrev pub unread : Window
unread = record { at = 0; end = 0; more = true }

-- what is before the program
abbrev pub view : Window → List ℕ → List ℕ
view w buf = drop w.at (take w.end buf)

pub record Inside (w : Window) (buf : List ℕ) : Type 0 where
  pub order : w.at ≤ w.end
  pub end : w.end ≤ length buf

-- the window and the buffer before and after more was read. What was before the program still is, in front; it is as much as is
-- needed, or the input has ended. Nothing is read where there was enough or the input had ended, and it has ended only where a
-- read left room in the buffer.
pub record Holds (need : ℕ) (w : Window) (old : List ℕ) (r : Window) (new : List ℕ) : Type 0 where
  pub inside : Inside r new
  pub kept : take (w.end - w.at) (view r new) ≡ view w old
  pub grown : w.end - w.at ≤ r.end - r.at
  pub enough : (need ≤ r.end - r.at) ⊎ (r.more ≡ false)
  pub still : (need ≤ w.end - w.at) ⊎ (w.more ≡ false) → (r ≡ w) × (new ≡ old)
  pub ended : r.more ≡ false → (w.more ≡ false) ⊎ (r.end < length new)
