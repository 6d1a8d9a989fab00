-- A found map is valid: by induction over the walk. Assumes nothing.
use Prim.Native.Nat.{ℕ, zero, suc, ◌+◌, ◌≤◌, ◌<◌}
use mathlib.Core.Bool.{true}
use mathlib.Core.Path.{◌≡◌, ◌∙◌}
use mathlib.Core.Logic.{inl, inr}
use mathlib.Core.List.{List}
use native.Mathlib.Omega.{arith}
use native.Mathlib.Nat.{eq-or-lt_of_le}
use lib.Ieee.{Float}
use lib.ListN.{get_or, length, length-set}
use lib.Seq.{get_or-set_same, get_or-set_other}
use Rattle.lists.proofs.Choice.{either_way}
use Rattle.accept.specs.Accepted.{line_ok}
use Rattle.near.specs.Near.{Below}
use Rattle.scan.specs.Scan.{cell_in, Sound}
use Rattle.map_search.specs.Lines.{line_of, Walk, Ended, next, reached, rest_of, map_of}
use Rattle.scan.specs.declared.Scan.{Scan}
use Rattle.map_search.specs.declared.Choice.{Choice}
use Rattle.std.specs.Prelude.{Some, None}
use Rattle.cells.specs.declared.Cost.{Cost}
use Rattle.map_search.proofs.LineChoice.{line_plain, line_flag}
use Rattle.map_search.proofs.PutLine.{length_put, put_below}
use Rattle.found.proofs.Lines.{line_same}
use Rattle.found.proofs.PutLine.{put_other, put_ok}

-- a map of n colours whose lines are as its flags say (test 15 of the listing)
pub record Valid (n : ℕ) (s : Scan) (map flags : List ℕ) : Type 0 where
  pub below : Below map n
  pub lines : (l : ℕ) → l < s.lines → line_ok (get_or flags l 0) (cell_in map s) s.len l ≡ true

not_found : (cost : Cost) → None ≡ Some cost → ⊥
not_found cost e =
    let differ : ◌≡◌ {A = ℕ} 0 1 = cc in
    omega arith

module _ (samples costs colours : List Float) (n : ℕ) (lambda : Float) (s : Scan) (N : ℕ) (S : Sound s N) (some : 0 < n)
    (eight : n ≤ 8) where
  -- ---- the walk
  abbrev step : Walk → ℕ → Walk
  step t l = next samples costs colours n lambda s t l

  -- what holds of it up to line l
  record Good (l : ℕ) (t : Walk) : Type 0 where
    below : Below t.map n
    room : N ≤ length t.map
    signs : s.lines ≤ length t.flags
    lines : (j : ℕ) → j < l → line_ok (get_or t.flags j 0) (cell_in t.map s) s.len j ≡ true

  module _ (l : ℕ) (t : Walk) (inside : l < s.lines) (good : Good l t) where
    abbrev choice : Choice
    choice = line_of samples costs colours n lambda s t.map l t.ctx

    plain : (choice.flag ≤ 2) × (choice.index < n)
    plain = line_plain samples costs colours n lambda s t.map l t.ctx some

    -- line l is as its flag says, and so are those before it still
    here : line_ok (get_or (step t l).flags l 0) (cell_in (step t l).map s) s.len l ≡ true
    here =
        let copied = line_flag samples costs colours n lambda s t.map l t.ctx some in
        rw (get_or-set_same t.flags l choice.flag 0 (omega (arith, good.signs)))
        (put_ok samples costs colours n lambda s N S t.map l t.ctx choice good.room inside plain.0 copied)

    earlier : (j : ℕ) → j < l → line_ok (get_or (step t l).flags j 0) (cell_in (step t l).map s) s.len j ≡ true
    earlier j before =
        rw (get_or-set_other t.flags l j choice.flag 0 (λ e. omega arith))
        (line_same (get_or t.flags j 0) s.len j _ (cell_in t.map s) S.some
        (λ i a up short.
        put_other samples costs colours n lambda s N S t.map l t.ctx choice i a inside (omega arith) (λ e. omega arith) short)
        ∙ good.lines j before)

    up_to : (j : ℕ) → j < l + 1 → j ≤ l
    up_to j h = omega arith

    good_next : Good (l + 1) (step t l)
    good_next = record {
      below = put_below samples costs colours n lambda s t.map l t.ctx choice some eight plain.1 good.below;
      room = omega (arith, good.room, length_put samples costs colours n lambda s t.map l t.ctx choice);
      signs = omega (arith, good.signs, length-set t.flags l choice.flag);
      lines = λ j h. (elim (eq-or-lt_of_le (up_to j h)) [ inl e ↦ rw e here | inr before ↦ earlier j before ]);
    }

  -- if it is found, it is valid
  abbrev FoundValid : Ended → Type 0
  FoundValid e = (cost : Cost) → e.result ≡ Some cost → Valid n s e.map e.flags

  module _ (head bound : Float) where
    rest_valid : (k l : ℕ) (t : Walk) → l + k ≡ s.lines → Good l t
        → FoundValid (rest_of samples costs colours n lambda s head bound k l t)
    unfolding rest_of
    rest_valid zero l t all good =
        λ cost e. record { below = good.below; lines = λ j h. good.lines j (omega arith) }
    rest_valid (suc k) l t all good =
        let u = step t l in
        let rest = rest_valid k (l + 1) u (omega arith) (good_next l t (omega arith) good) in
        either_way FoundValid (reached samples costs colours n lambda s head bound u)
        (record { map = u.map; flags = u.flags; result = None }) _ (λ cost e. absurd (not_found cost e)) rest

    -- what is found is valid: every index below n, and each line as its flag says
    pub found_valid : (map flags : List ℕ) → N ≤ length map → s.lines ≤ length flags → Below map n
        → FoundValid (map_of samples costs colours n lambda s head bound map flags)
    found_valid map flags room signs below =
        rest_valid s.lines 0 _ (omega arith)
        (record { below = below; room = room; signs = signs; lines = λ j h. absurd (omega arith) })
