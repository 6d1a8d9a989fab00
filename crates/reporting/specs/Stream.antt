-- Document 02, L1: the program reads its input in pieces. That this changes no report is proved in proofs/Stream.antt.
use Rattle.std.specs.Prelude.{ℕ, zero, suc, ◌-◌, ◌≤◌, ◌≡◌, cond, List, [], ◌++◌, ◌⊎◌, eqb, leb, length, take, drop}
use Rattle.reporting.specs.declared.Page.{Page}
use Rattle.reporting.specs.Report.{report}
use Rattle.reporting.specs.Steps.{blank, taken_of, page_after, printed_of}

-- u before the program and v not yet read: as much as a palette can take, or all that is left
abbrev pub Enough : List ℕ → List ℕ → Type 0
Enough u v = (33972 ≤ length u) ⊎ (v ≡ [])

-- the program's loop: before a step so many bytes of v are read behind u, then the step takes what it takes; what it prints, in all
unfoldable pub run : (Page → List ℕ → List ℕ → ℕ) → ℕ → Page → List ℕ → List ℕ → List ℕ
run reads zero p u v = []
run reads (suc steps) p u v =
    let n = reads p u v in
    let s = u ++ take n v in
    printed_of p s ++ cond (eqb (taken_of p s) 0) [] (run reads steps (page_after p s) (drop (taken_of p s) s) (drop n v))

-- however the reads fall: if there is enough before each step, the steps print the report of the whole text
abbrev pub StepsReport : Type 0
StepsReport =
    (reads : Page → List ℕ → List ℕ → ℕ)
    → ((p : Page) (u v : List ℕ) → Enough (u ++ take (reads p u v) v) (drop (reads p u v) v))
    → (s : List ℕ) → run reads 10000 blank [] s ≡ report s

-- the program's own reads: where there is not enough, what its window of `room` bytes still holds
unfoldable pub filling : ℕ → Page → List ℕ → List ℕ → ℕ
filling room p u v = cond (leb 33972 (length u)) 0 (room - length u)
