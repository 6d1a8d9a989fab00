-- `IsCut` is all cuts and nothing else: groups in a row and where they start say the same. Assumes nothing.
use mathlib.Core.Path.{◌≡◌, refl, ap}
use mathlib.Core.List.{List, [], ◌∷◌}
use Prim.Native.Nat.{ℕ, zero, suc}
use native.Mathlib.Nat.{le_of_lt}
use native.Mathlib.Omega.{arith}
use lib.ListN.{length, take, length-append, length-drop, take-append-drop}
use lib.Seq.{take_at, drop_at, length-take-le}
use Rattle.groups.specs.Groups.{IsCut}
use Rattle.quality.specs.Quality.{together, NoneEmpty, InARow, starts_of, groups_by, CutsAreAll}

-- ---- from groups to their cut
starts_cut : (gs : List (List ℕ)) → NoneEmpty gs → IsCut (length gs) (length (together gs)) (starts_of gs)
unfolding together starts_of
starts_cut [] f = refl
starts_cut (g ∷ gs) f = (omega (arith, f.0, length-append (together gs) g), starts_cut gs f.1)

groups_back : (gs : List (List ℕ)) → groups_by (together gs) (starts_of gs) ≡ gs
unfolding together starts_of groups_by
groups_back [] = refl
groups_back (g ∷ gs) =
    let t = together gs in
    rw (drop_at t g (length t) refl, take_at t g (length t) refl) (ap (λ z. g ∷ z) (groups_back gs))

-- ---- from a cut to its groups
groups_of_cut : (k : ℕ) (xs c : List ℕ) → IsCut k (length xs) c → InARow k xs (groups_by xs c) × (starts_of (groups_by xs c) ≡ c)
unfolding together starts_of groups_by
groups_of_cut zero [] (i ∷ c) x = elim x [ ]
groups_of_cut zero (y ∷ xs) (i ∷ c) x = elim x [ ]
groups_of_cut (suc k) xs [] x = elim x [ ]
groups_of_cut zero [] [] x = (record { count = refl; filled = tt; whole = refl }, refl)
groups_of_cut zero (y ∷ xs) [] x = absurd (omega arith)
groups_of_cut (suc k) xs (i ∷ c) x =
    let front : length (take i xs) ≡ i = length-take-le i xs (le_of_lt x.0) in
    let r = groups_of_cut k (take i xs) c (rw front x.1) in
    let row = r.0 in (
      record {
        count = ap suc row.count;
        filled = (rw (length-drop i xs) (omega (arith, x.0)), row.filled);
        whole = rw row.whole (take-append-drop i xs);
      },
      rw (row.whole, front, r.1) refl,
    )

pub cuts_are_all : CutsAreAll
cuts_are_all k xs = record { cuts = cuts; groups = groups_of_cut k xs }
  where
    cuts : (gs : List (List ℕ)) → InARow k xs gs → IsCut k (length xs) (starts_of gs) × (groups_by xs (starts_of gs) ≡ gs)
    cuts gs row = rw (← row.count, ← row.whole) (starts_cut gs row.filled, groups_back gs)
