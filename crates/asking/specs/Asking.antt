-- Document 02, L3: the lines that a map search reaches, and its askings of the context for constant candidates.
use Rattle.std.specs.Prelude.{ℕ, zero, suc, ◌+◌, ◌-◌, cond, ◌≡◌, List, Float}
use Rattle.scan.specs.declared.Scan.{Scan}
use Rattle.map_search.specs.Lines.{Walk, started, next, reached}
use Rattle.asking.specs.declared.Walked.{Walked}

module _ (samples costs colours : List Float) (n : ℕ) (lambda : Float) (s : Scan) (head bound : Float) where
  -- k lines from line l on: how many are reached in all, the one in which the bound stops the search among them
  unfoldable pub reached_from : ℕ → ℕ → Walk → ℕ
  reached_from zero l t = l
  reached_from (suc k) l t =
      let longer = next samples costs colours n lambda s t l in
      cond (reached samples costs colours n lambda s head bound longer) (l + 1) (reached_from k (l + 1) longer)

  abbrev pub lines_reached : List ℕ → List ℕ → ℕ
  lines_reached map flags = reached_from s.lines 0 (started map flags)

-- as many askings as lines after the first that are reached, and none in the first
pub record AskedOnce (r : Walked) (lines : ℕ) : Type 0 where
  pub reached : r.lines ≡ lines
  pub first : r.askings.first ≡ 0
  pub later : r.askings.later ≡ lines - 1
