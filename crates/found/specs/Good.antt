-- Document 02, L9, of the search: what a caller has of it. Proved in proofs/Good.antt.
use Rattle.std.specs.Prelude.{◌≡◌, List, ℕ, ◌≤◌, ◌<◌, take, get_or, Float}
use Rattle.lists.specs.Counted.{part_of}
use Rattle.groups.specs.Groups.{cut_of, colors_of}
use Rattle.quality.specs.Quality.{GroupsAreGood}
use Rattle.sizes.specs.declared.Block.{Block}
use Rattle.accept.specs.Answer.{refused_by}
use Rattle.accept.specs.declared.Palette.{Palette}
use Rattle.search.specs.Search.{histogram_in, search_number, Searches}
use Rattle.strip.specs.declared.Strip.{Strip}
use Rattle.strip.specs.Strip.{blocks_in, cells_at, Strips}

-- of every block that passes the tests 1 to 10, with any rooms that hold its map
abbrev pub AcceptedIsGood : Type 0
AcceptedIsGood =
    (samples costs : List Float) (b : Block) (mapRoom flagRoom : ℕ) → search_number samples costs b mapRoom flagRoom ≡ 0
    → GroupsAreGood (histogram_in samples)

-- the colours of an answer are those of the groups of such a cut, into as many groups as it has colours
pub record GoodColors (samples : List Float) (r : Palette) : Type 0 where
  pub each : GroupsAreGood (histogram_in samples)
  pub size : (2 ≤ r.n) × (r.n ≤ 8) × (r.n ≤ (histogram_in samples).n)
  pub colors : let h = histogram_in samples in take r.n r.colors ≡ colors_of h.w h.s h.n (cut_of h r.n)

-- if search returns 0
abbrev pub FoundIsGood : Type 0
FoundIsGood =
    (samples costs : List Float) (b : Block) (map₀ map flags₀ flags : List ℕ) (r : Palette)
    → Searches samples costs b map₀ map flags₀ flags r → r.number ≡ 0 → GoodColors samples r

-- and so of each block of a strip whose own number is 0
abbrev pub StripIsGood : Type 0
StripIsGood =
    (sides : List ℕ) (samples costs : List Float) (bd : ℕ) (lambda : Float) (map₀ map flags₀ flags : List ℕ) (r : Strip)
    → Strips sides samples costs bd lambda map₀ map flags₀ flags r → r.number ≡ 0 → (i : ℕ) → i < blocks_in sides
    → let answer = get_or r.answers i (refused_by 0) in
    answer.number ≡ 0 → GoodColors (part_of (cells_at sides) samples i) answer
