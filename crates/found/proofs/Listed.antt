-- What search found is listed whole (demand 3, second part).
use Prim.Native.Nat.{ℕ, ◌*◌, ◌≤◌}
use mathlib.Core.Path.{◌≡◌, refl, ◌∙◌, subst}
use mathlib.Core.List.{List}
use lib.ListN.{length, take, drop}
use lib.Seq.{take_at}
use borrow.Author.Tests.{le-leb}
use Rattle.lists.specs.Written.{front}
use Rattle.context.specs.Map.{lines_of}
use Rattle.scan.specs.Scan.{scan_of}
use Rattle.accept.specs.Palette.{Palette, palette_of}
use Rattle.accept.specs.Accepted.{Accepted}
use Rattle.accept.proofs.Accepted.{zero_of_accepted}
use Rattle.listing.specs.Listing.{call_list, list_number, Lists}
use Rattle.listing.specs.declared.Listed.{Listed}
use Rattle.search.specs.Search.{Standing, found_in, search_number, palette_by}
use Rattle.accept.specs.declared.Palette.{Palette as Answer}
use Rattle.scan.proofs.Scans.{lines_are}
use Rattle.search.proofs.Passed.{all_passed}
use Rattle.search.proofs.Kept.{kept_cells, kept_flags}
use Rattle.search.proofs.Finds.{finds}
use Rattle.search.proofs.Answer.{answer_zero}
use Rattle.found.specs.Listed.{found_palette, ListedWhole, FoundIsListed}
use Rattle.found.proofs.Kept.{kept_accepted}

-- what was written in front, read back
front_take : (ws old : List ℕ) (k : ℕ) → length ws ≡ k → take k (front ws old) ≡ ws
unfolding front
front_take ws old k e = take_at ws (drop (length ws) old) k e

-- the palette of what search kept, as its caller reads it
handed_over : (w h : ℕ) (s : Standing) (r : Answer) (map₀ map flags₀ flags : List ℕ) → r ≡ palette_by s.best
    → map ≡ front s.map map₀ → flags ≡ front s.flags flags₀
    → length s.map ≡ w * h → length s.flags ≡ (scan_of w h s.best.transposed).lines
    → palette_of s.best.colors s.best.n s.best.transposed s.map s.flags ≡ found_palette w h r map flags
handed_over w h s r map₀ map flags₀ flags e m f cells signs =
    let t = s.best.transposed in
    let lines : length s.flags ≡ lines_of t w h = signs ∙ (lines_are w h t).0 in
    rw (e, m, f, front_take s.map map₀ (w * h) cells, front_take s.flags flags₀ _ lines) refl

-- an accepted palette is listed whole where the room holds its list
listed_whole : (w h bd : ℕ) (cache : List ℕ) (p : Palette) (before after : List ℕ) (l : Listed)
    → Lists w h bd cache p before after l → Accepted w h bd cache p → length (call_list w h bd cache p) ≤ length before
    → ListedWhole w h bd cache p before after l
unfolding list_number
listed_whole w h bd cache p before after l a ok room =
    let z : l.number ≡ 0 = a.number ∙ rw (zero_of_accepted w h bd cache p ok, le-leb _ _ room) refl in
    record { number = z; count = rw z at a.count; width = rw z at a.width; words = rw z at a.words }

pub found_is_listed : FoundIsListed
found_is_listed samples costs b map₀ cells flags₀ flags r answered zero cache cached before after l lists room =
    let s = found_in samples costs b in
    let number = search_number samples costs b (length map₀) (length flags₀) in
    let handed = answer_zero number s.best r answered.answer zero in
    let passed = all_passed samples costs b (length map₀) (length flags₀) handed.0 in
    let kept = finds passed.0 refl passed.1 passed.2 in
    let same = handed_over b.width b.height s r map₀ cells flags₀ flags handed.1
    (rw zero at answered.cells) (rw zero at answered.signs) (kept_cells kept) (kept_flags kept) in
    let ok = kept_accepted passed.0 passed.2 kept cache cached in
    listed_whole b.width b.height b.bd cache _ before after l lists
    (subst (λ p. Accepted b.width b.height b.bd cache p) same ok) room
