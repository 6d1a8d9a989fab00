use mathlib.Core.Path.{◌≡◌, refl, sym, ap, ◌∙◌}
use mathlib.Core.List.{List, ◌∷◌}
use Prim.Native.Nat.{ℕ, ◌+◌, ◌≤◌, ◌<◌, min, max}
use native.Mathlib.Omega.{arith}
use lib.ListN.{length, take, set, get_or, drop, replicate, length-set, drop_of_length-le}
use lib.Seq.{drop-cons}
use native.Mathlib.Numerals.{add-one}
use Rattle.lists.specs.Written.{written}
use Rattle.lists.proofs.Written.{written_front}
use Rattle.read_colors.specs.Colors.{insert, in_eight}
use Rattle.read_colors.specs.Held.{colors_in}
use Rattle.read_colors.specs.declared.held.Held.{Held}
use Rattle.read_colors.proofs.Inserted.{length_insert, length_held, eight_front}
use Rattle.read_colors.proofs.held.Held.insert.Invariants.{Inv}
use Rattle.read_colors.proofs.held.Held.insert.Goals as goal

module _ (h : Held) (e : ℕ) (out : List ℕ) (carry i : ℕ) (v : Inv (colors_in h) e out carry i) where
  turn : i < length (colors_in h) → (low high : ℕ) → low ≡ min carry (get_or (colors_in h) i 0) → high ≡ max carry (get_or (colors_in h) i 0)
      → Inv (colors_in h) e (set out i low) high (i + 1)
  unfolding insert written
  turn k low high p q =
      let next : drop i (colors_in h) ≡ get_or (colors_in h) i 0 ∷ drop (i + 1) (colors_in h) = rw (drop-cons (colors_in h) i 0 k, add-one) refl in
      record { eight = length-set out i low ∙ v.eight; put = rw (p, q) (rw next at v.put) }

  -- the places behind the loop, with the colour carried put in
  module _ (room : h.count < 8) (same : i ≡ length (colors_in h)) where
    end : set out h.count carry ≡ in_eight (insert e (colors_in h))
    unfolding insert written
    end =
        let few : length (insert e (colors_in h)) ≤ 8 = omega (arith, length_insert e (colors_in h), length_held h) in
        let at : i ≡ h.count = same ∙ length_held h in
        let last = rw (drop_of_length-le (colors_in h) {i = i} (omega arith)) at v.put in
        rw at at last ∙ written_front (replicate 8 0) (insert e (colors_in h)) few

    inserted : take (h.count + 1) (set out h.count carry) ≡ insert e (colors_in h)
    inserted =
        let long : length (insert e (colors_in h)) ≡ h.count + 1 = omega (arith, length_insert e (colors_in h), length_held h) in
        rw end (eight_front (insert e (colors_in h)) (h.count + 1) long)

    held : record { few : h.count + 1 ≤ 8; eight : set out h.count carry ≡ in_eight (take (h.count + 1) (set out h.count carry)) }
    held = record { few = omega arith; eight = end ∙ ap (λ (cs : List ℕ). in_eight cs) (sym inserted) }

pub loop-i-init : goal.loop-i-init
loop-i-init c = record { eight = refl; put = refl }

pub loop-i-preserved : goal.loop-i-preserved
loop-i-preserved c = turn c.args.self.now _ _ _ _ c.loop-i.invariant c.loop-i-test.true _ _ c.min.ensures c.max-carry.ensures

pub invariant_of-self : goal.invariant_of-self
invariant_of-self c = held c.args.self.now _ _ _ _ c.loop-i.invariant c.requires (omega arith)

pub returns : goal.returns
returns c = record { one_more = refl; inserted = inserted c.args.self.now _ _ _ _ c.loop-i.invariant c.requires (omega arith) }
