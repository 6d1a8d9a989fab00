-- Document 02, L6: every found block of a strip is listed whole. Proved in proofs/Strip.antt.
use Rattle.std.specs.Prelude.{◌≡◌, List, ℕ, ◌≤◌, ◌<◌, length, get_or, Float}
use Rattle.lists.specs.Counted.{part_of}
use Rattle.accept.specs.Answer.{refused_by}
use Rattle.listing.specs.Listing.{call_list, Lists}
use Rattle.listing.specs.declared.Listed.{Listed}
use Rattle.strip.specs.declared.Strip.{Strip}
use Rattle.strip.specs.Strip.{blocks_in, block_at, cells_at, lines_at, Strips}
use Rattle.found.specs.Listed.{found_palette, ListedWhole}

-- as `FoundIsListed`, of each block whose own number is 0, with its parts of map and flags
abbrev pub StripIsListed : Type 0
StripIsListed =
    (sides : List ℕ) (samples costs : List Float) (bd : ℕ) (lambda : Float) (map₀ map flags₀ flags : List ℕ) (r : Strip)
    → Strips sides samples costs bd lambda map₀ map flags₀ flags r → r.number ≡ 0 → (i : ℕ) → i < blocks_in sides
    → let b = block_at sides bd lambda i in
    let answer = get_or r.answers i (refused_by 0) in
    let p = found_palette b.width b.height answer (part_of (cells_at sides) map i) (part_of (lines_at sides) flags i) in
    answer.number ≡ 0 → (cache : List ℕ) → length cache ≤ 64
    → (before after : List ℕ) (l : Listed) → Lists b.width b.height bd cache p before after l
    → length (call_list b.width b.height bd cache p) ≤ length before
    → ListedWhole b.width b.height bd cache p before after l
