-- The answer from its parts. Assumes nothing.
use mathlib.Core.Path.{◌≡◌, refl, sym, ◌∙◌}
use mathlib.Core.Bool.{Bool, true, false, cond, not}
use mathlib.Core.List.{List}
use mathlib.Core.Logic.{◌⊎◌, inl, inr}
use Prim.Native.Nat.{ℕ}
use native.Mathlib.Omega.{arith}
use lib.Dec.{eqb}
use lib.ListN.{length, replicate}
use lib.Ieee.{Float, binary32, of_bits}
use borrow.Author.Tests.{eqb-true, eq-eqb, ne_eqb}
use Rattle.lists.proofs.Choice.{held}
use Rattle.refusals.specs.declared.Refusal.{Refusal}
use Rattle.refusals.specs.declared.Refusal.TheVariants.{Side, Depth, SampleCount, Lambda, Costs, Sample, Room, Small, OneLevel, ManyLevels, Colors, Orientation, Cache, Lengths, Map, WordRoom, Text, Context, BlockCount, ListEnd, Word, WordsLeft, NotListed, AdaptedLength, AdaptedRows}
use Rattle.refusals.specs.Numbers.{number_of}
use Rattle.costs.specs.Rows.{defaults, rows_ok}
use Rattle.costs.specs.Costs.{table_costs, table_of, costs_number, costs_of, MakesCosts}

-- an accepted table has 0 or 260 numbers
pub length_known : (adapted : List ℕ) → costs_number adapted ≡ 0 → (length adapted ≡ 0) ⊎ (length adapted ≡ 260)
unfolding costs_number
length_known adapted e = go (eqb (length adapted) 0) refl e
  where
    go : (b : Bool) → eqb (length adapted) 0 ≡ b
        → ◌≡◌ {A = ℕ} (cond b 0 (cond (not (eqb (length adapted) 260)) 24 (cond (not (rows_ok adapted)) 25 0))) 0
        → (length adapted ≡ 0) ⊎ (length adapted ≡ 260)
    go true t z = inl (eqb-true _ 0 t)
    go false t z = inr (eqb-true _ 260 (held (eqb (length adapted) 260) 23 _ z).0)

-- a refusal has a number
some : (refusal : Refusal) → number_of refusal ≡ 0 → ⊥
some Side e = absurd (omega arith)
some Depth e = absurd (omega arith)
some SampleCount e = absurd (omega arith)
some Lambda e = absurd (omega arith)
some Costs e = absurd (omega arith)
some Sample e = absurd (omega arith)
some Room e = absurd (omega arith)
some Small e = absurd (omega arith)
some OneLevel e = absurd (omega arith)
some ManyLevels e = absurd (omega arith)
some Colors e = absurd (omega arith)
some Orientation e = absurd (omega arith)
some Cache e = absurd (omega arith)
some Lengths e = absurd (omega arith)
some Map e = absurd (omega arith)
some WordRoom e = absurd (omega arith)
some Text e = absurd (omega arith)
some Context e = absurd (omega arith)
some BlockCount e = absurd (omega arith)
some ListEnd e = absurd (omega arith)
some Word e = absurd (omega arith)
some WordsLeft e = absurd (omega arith)
some NotListed e = absurd (omega arith)
some AdaptedLength e = absurd (omega arith)
some AdaptedRows e = absurd (omega arith)

module _ (adapted : List ℕ) where
  pub accepted : (costs : List Float) → 0 ≡ costs_number adapted → costs ≡ table_costs (table_of adapted defaults)
      → MakesCosts adapted (record { number = 0; costs = costs })
  unfolding costs_of
  accepted costs e c =
      let t : eqb (costs_number adapted) 0 ≡ true = eq-eqb _ 0 (sym e) in
      record { number = e; costs = c ∙ simp t }

  pub refused : (n : ℕ) (refusal : Refusal) → n ≡ number_of refusal → number_of refusal ≡ costs_number adapted
      → MakesCosts adapted (record { number = n; costs = replicate 301 (of_bits binary32 0) })
  unfolding costs_of
  refused n refusal k e =
      let t : eqb (costs_number adapted) 0 ≡ false = ne_eqb _ 0 (λ q. some refusal (e ∙ q)) in
      record { number = k ∙ e; costs = simp t }
