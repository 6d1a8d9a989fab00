-- Document 02, L2: listing and reading undo each other. What the theorems say; proofs/Undo has them.
use Rattle.std.specs.Prelude.{ℕ, ◌*◌, ◌≤◌, max, ◌≡◌, ◌↔◌, List}
use Rattle.accept.specs.Palette.{Palette}
use Rattle.accept.specs.Accepted.{Accepted}
use Rattle.listing.specs.Listing.{call_list}
use Rattle.reading.specs.Reading.{back, reading}

-- what is read back is the palette listed
abbrev pub ListedIsRead : Type 0
ListedIsRead =
    (w h bd : ℕ) (cache : List ℕ) (p : Palette) (cells lines : ℕ) → w * h ≤ cells → max w h ≤ lines → Accepted w h bd cache p
    → reading w h bd cache cells lines (call_list w h bd cache p) ≡ back p

-- a list is accepted only if the listing would write that same list
abbrev pub ReadIsListed : Type 0
ReadIsListed =
    (w h bd : ℕ) (cache : List ℕ) (p : Palette) (cells lines : ℕ) (ws : List ℕ) → reading w h bd cache cells lines ws ≡ back p
    → Accepted w h bd cache p × (ws ≡ call_list w h bd cache p)

-- no two palettes share a list for readers either: lists that are both read are equal exactly when their palettes are the same
abbrev pub ReadExactlySame : Type 0
ReadExactlySame =
    (w h bd : ℕ) (cache : List ℕ) (p q : Palette) (cells lines cells' lines' : ℕ) (ws vs : List ℕ)
    → reading w h bd cache cells lines ws ≡ back p → reading w h bd cache cells' lines' vs ≡ back q → (ws ≡ vs) ↔ (p ≡ q)
