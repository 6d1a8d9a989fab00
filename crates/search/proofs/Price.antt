-- Tests 4 and 5 by their one answer; and no refusal has the number 0. Assumes nothing.
use mathlib.Core.Path.{◌≡◌, sym, ◌∙◌}
use mathlib.Core.Bool.{Bool, true, false, cond, not}
use mathlib.Core.List.{List}
use Prim.Native.Nat.{ℕ}
use native.Mathlib.Omega.{arith}
use lib.Ieee.{Float}
use Rattle.lists.proofs.Choice.{held}
use Rattle.refusals.specs.Numbers.{number_of}
use Rattle.refusals.specs.declared.Refusal.{Refusal}
use Rattle.refusals.specs.declared.Refusal.TheVariants.{Side, Depth, SampleCount, Lambda, Costs, Sample, Room, Small, OneLevel, ManyLevels, Colors, Orientation, Cache, Lengths, Map, WordRoom, Text, Context, BlockCount, ListEnd, Word, WordsLeft, NotListed, AdaptedLength, AdaptedRows}
use Rattle.samples.specs.Samples.{lambda_ok, costs_ok}
use Rattle.search.specs.Steps.{price_fault}

pub refused : (r : Refusal) → number_of r ≡ 0 → ⊥
refused Side e = omega arith
refused Depth e = omega arith
refused SampleCount e = omega arith
refused Lambda e = omega arith
refused Costs e = omega arith
refused Sample e = omega arith
refused Room e = omega arith
refused Small e = omega arith
refused OneLevel e = omega arith
refused ManyLevels e = omega arith
refused Colors e = omega arith
refused Orientation e = omega arith
refused Cache e = omega arith
refused Lengths e = omega arith
refused Map e = omega arith
refused WordRoom e = omega arith
refused Text e = omega arith
refused Context e = omega arith
refused BlockCount e = omega arith
refused ListEnd e = omega arith
refused Word e = omega arith
refused WordsLeft e = omega arith
refused NotListed e = omega arith
refused AdaptedLength e = omega arith
refused AdaptedRows e = omega arith

module _ (lambda : Float) (costs : List Float) (price : ℕ) (is : price ≡ price_fault lambda costs) where
  pub price_passes : price ≡ 0 → (lambda_ok lambda ≡ true) × (costs_ok costs ≡ true)
  price_passes z =
      let weight = held (lambda_ok lambda) 3 _ (sym is ∙ z) in
      (weight.0, (held (costs_ok costs) 4 0 weight.1).0)

  -- it stands in the chain of tests, whatever follows
  pub price_refuses : (rest : ℕ) → (price ≡ 0 → ⊥) → cond (not (lambda_ok lambda)) 4 (cond (not (costs_ok costs)) 5 rest) ≡ price
  price_refuses rest some = go (lambda_ok lambda) (costs_ok costs) is
    where
      go : (a b : Bool) → price ≡ cond (not a) 4 (cond (not b) 5 0) → cond (not a) 4 (cond (not b) 5 rest) ≡ price
      go false b e = sym e
      go true false e = sym e
      go true true e = absurd (some e)
