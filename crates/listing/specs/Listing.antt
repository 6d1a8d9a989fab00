-- The call list of a palette, its prediction, and what `list` and `pred` answer; when two palettes are the same, when one
-- list begins another (document 01, 'How far the wording reaches', 3), and that the one is so exactly when the other is.
use Rattle.std.specs.Prelude.{ℕ, ◌*◌, ◌≤◌, ◌<◌, ◌≡◌, cond, ◌↔◌, List, ◌++◌, map, eqb, leb, pos, Float, length, get_or, drop}
use Rattle.std.specs.Float.{binary32}
use Rattle.std.specs.Float.Ieee.{of_int}
use Rattle.lists.specs.Written.{front}
use Rattle.literals.specs.Words.{raw_width_of}
use Rattle.accept.specs.Palette.{Palette}
use Rattle.accept.specs.Accepted.{refusal, Accepted}
use Rattle.emit.specs.Colors.{color_words}
use Rattle.emit.specs.Map.{map_words}
use Rattle.listing.specs.declared.Listed.{Listed}

-- all its words, from size to map
unfoldable pub call_list : ℕ → ℕ → ℕ → List ℕ → Palette → List ℕ
call_list w h bd cache p = color_words bd cache p.colors ++ map_words (length p.colors) p.transposed p.flags p.map w h

-- 1, 2, 11 to 15, then 16: the room is too small for the list
unfoldable pub list_number : ℕ → ℕ → ℕ → List ℕ → Palette → ℕ → ℕ
list_number w h bd cache p room =
    let fault = refusal w h bd (length cache) p in
    cond (eqb fault 0) (cond (leb (length (call_list w h bd cache p)) room) 0 16) fault

abbrev pub refused_by : ℕ → Listed
refused_by k = record { number = k; count = 0; raw_width = 0 }

-- the answer of `list`, and the buffer before and after: on 0 the words stand from the front, else nothing is written
pub record Lists (w h bd : ℕ) (cache : List ℕ) (p : Palette) (before after : List ℕ) (r : Listed) : Type 0 where
  pub number : r.number ≡ list_number w h bd cache p (length before)
  pub count : r.count ≡ cond (eqb r.number 0) (length (call_list w h bd cache p)) 0
  pub width : r.raw_width ≡ cond (eqb r.number 0) (raw_width_of (call_list w h bd cache p)) 0
  pub words : after ≡ cond (eqb r.number 0) (front (call_list w h bd cache p) before) before

-- the colours of indices, as f32
abbrev pub values_of : List ℕ → List ℕ → List Float
values_of colors indices = map (λ i. of_int binary32 (pos (get_or colors i 0))) indices

-- one value per cell
abbrev pub prediction : Palette → List Float
prediction p = values_of p.colors p.map

-- 1, 2, 11, 12, 14, 15, then 7: room for the values below width × height
unfoldable pub pred_number : ℕ → ℕ → ℕ → Palette → ℕ → ℕ
pred_number w h bd p room =
    let fault = refusal w h bd 0 p in
    cond (eqb fault 0) (cond (leb (w * h) room) 0 7) fault

pub record Predicts (w h bd : ℕ) (p : Palette) (before after : List Float) (r : ℕ) : Type 0 where
  pub number : r ≡ pred_number w h bd p (length before)
  pub values : after ≡ cond (eqb r 0) (prediction p ++ drop (w * h) before) before

-- the colours and with them n, the orientation, every flag and every index
pub record Same (p q : Palette) : Type 0 where
  pub colors : p.colors ≡ q.colors
  pub transposed : p.transposed ≡ q.transposed
  pub flags : p.flags ≡ q.flags
  pub map : p.map ≡ q.map

-- at most as many words, and each of them stands at the same place there
pub record Begins (u v : List ℕ) : Type 0 where
  pub few : length u ≤ length v
  pub words : (i : ℕ) → i < length u → get_or u i 0 ≡ get_or v i 0

-- Demand 3, first part: for two accepted palettes of one width, height, depth and cache, one call list begins the other
-- exactly when the palettes are the same. Proved in proofs/Begins.antt.
abbrev pub BeginsExactlySame : Type 0
BeginsExactlySame =
    (width height depth : ℕ) (cache : List ℕ) (p q : Palette)
    → Accepted width height depth cache p → Accepted width height depth cache q
    → Begins (call_list width height depth cache p) (call_list width height depth cache q) ↔ Same p q
