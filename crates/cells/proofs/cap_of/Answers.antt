use Prim.Native.Nat.{ℕ, ◌+◌, ◌-◌, ◌*◌, ◌≤◌, ◌<◌}
use mathlib.Core.Bool.{Bool, true, false, true≢false}
use mathlib.Core.List.{List}
use mathlib.Core.Path.{◌≡◌, refl, sym, ap, ◌∙◌}
use mathlib.Core.Logic.{inl, inr}
use native.Mathlib.Omega.{arith}
use lib.Ieee.{Float, nan, binary32, of_bits, div, le}
use lib.ListN.{get_or, drop, length, length-drop}
use Rattle.std.specs.List.{list_all, slice_range}
use Rattle.std.proofs.lemmas.List.{get_or-drop, get_or-take, length-take-le}
use Rattle.std.proofs.lemmas.List.Folds.{list_all_at}
use Rattle.lists.specs.Counted.{all_below}
use Rattle.lists.proofs.Counted.{all_below_of}
use Rattle.cells.proofs.cap_of.Goals as goal

no_number : div binary32 (of_bits binary32 0) (of_bits binary32 0) ≡ nan
unfolding of_bits div
no_number = refl

-- what holds of all costs of a slice holds of each by its place
each_of : (test : Float → Bool) (costs : List Float) (at : ℕ) → at + 40 ≤ length costs
    → list_all test (slice_range costs at (at + 40)) ≡ true → all_below (λ k. test (get_or costs (at + k) nan)) 40 ≡ true
each_of test costs at inside all = all_below_of _ 40 (λ k h. go k h (test (get_or costs (at + k) nan)) refl)
  where
    go : (k : ℕ) → k < 40 → (t : Bool) → test (get_or costs (at + k) nan) ≡ t → t ≡ true
    go k h true e = refl
    go k h false e =
        let row = slice_range costs at (at + 40) in
        let here : get_or row k nan ≡ get_or costs (at + k) nan = get_or-take (at + 40 - at) (drop at costs) k nan (omega (arith, h)) ∙ get_or-drop at costs k nan in
        let long : k < length row = rw (length-take-le (at + 40 - at) (drop at costs) (rw (length-drop at costs) (omega (arith, inside)))) (omega (arith, h)) in
        absurd (true≢false (sym all ∙ list_all_at test row k nan long (ap test here ∙ e)))

pub returns-then-none_above : goal.returns-then-none_above
returns-then-none_above c =
    let at = 21 + (c.args.n - 2) * 40 in
    inr (c.if-most.true, each_of (λ cost. le cost c.highest-most.result) c.args.costs.now at (omega (arith, c.requires)) (sym c.none_above.ensures ∙ c.if-none_above.true))

pub returns : goal.returns
returns c = inl no_number
