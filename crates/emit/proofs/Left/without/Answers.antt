use Rattle.std.proofs.Common.{ℕ, List, [], ◌∷◌, ◌++◌, ◌≡◌, ◌<◌, ◌≤◌, ◌+◌, refl, sym, ap, ◌∙◌, add-one, arith, length, get_or, take, drop, drop-cons, length-set, append_assoc, append-nil}
use Rattle.std.proofs.lemmas.Bool.{eq-eqb, ne_eqb}
use Rattle.std.proofs.lemmas.List.{length-take, length-take-le}
use Rattle.std.proofs.Math.Seq.{take-suc-set}
use lib.ListN.{drop_of_length-le}
use Rattle.lists.proofs.Ascending.{ascending_is}
use Rattle.emit.specs.declared.Left.{Left}
use Rattle.emit.specs.Colors.{remove}
use Rattle.emit.proofs.Remove.{without, without_remove, ascends_remove}
use Rattle.emit.proofs.Left.without.Goals as goal
use Rattle.emit.proofs.Left.without.Goals.{then-color-level, else-color-level}

abbrev colors_of : Left → List ℕ
colors_of s = take s.count s.colors

few : (s : Left) → length (colors_of s) ≤ 8
few s = omega (arith, length-take s.count s.colors, s.few)

module _ (e i : ℕ) (m : List ℕ) (inside : i < length m) where
  split : drop i m ≡ get_or m i 0 ∷ drop (i + 1) m
  split = rw add-one (drop-cons m i 0 inside)

  kept : (get_or m i 0 ≡ e → ⊥) → without e (drop i m) ≡ get_or m i 0 ∷ without e (drop (i + 1) m)
  unfolding without
  kept h = rw (split, ne_eqb _ _ (λ q. h (sym q))) refl

  gone : get_or m i 0 ≡ e → without e (drop i m) ≡ without e (drop (i + 1) m)
  unfolding without
  gone h = rw (split, eq-eqb _ _ (sym h)) refl

-- at the end
module _ (s : Left) (e k i : ℕ) (left : List ℕ) (room : length left ≡ 8) (low : k ≤ i) (high : i ≤ length (colors_of s)) (past : length (colors_of s) ≤ i)
    (wrote : take k left ++ without e (drop i (colors_of s)) ≡ without e (colors_of s)) where
  is : take k left ≡ remove e (colors_of s)
  unfolding without
  is =
      let none : drop i (colors_of s) ≡ [] = drop_of_length-le (colors_of s) {i = i} past in
      sym (append-nil (take k left)) ∙ (rw none at wrote) ∙ without_remove e (colors_of s) (ascending_is (colors_of s) s.rising)

  size : k ≡ length (remove e (colors_of s))
  size = sym (length-take-le k left (omega (arith, few s))) ∙ ap length is

pub loop-color-preserved : goal.loop-color-preserved
loop-color-preserved c =
    let l = c.loop-color in
    let m = colors_of c.args.self.now in
    let e = c.args.level.0 in
    let i = l.color-index in
    let acc = take l.k l.left in
    let one = get_or m i 0 in
    let hk : l.k < length l.left = omega (arith, few c.args.self.now, l.invariant.1, l.invariant.0, c.loop-color-test.true) in
    elim c.if-color-level.branch [
      | then-color-level w ↦
          let a : take c.if-color-level.k c.if-color-level.left ≡ acc ++ (one ∷ []) = rw (w.left-is, w.k-is, add-one) (take-suc-set l.left l.k one hk) in (
            omega (arith, w.k-is, l.invariant.0),
            ap length w.left-is ∙ length-set l.left l.k one ∙ l.invariant.1,
            ap (λ (ys : List ℕ). ys ++ without e (drop (i + 1) m)) a ∙ append_assoc acc (one ∷ []) (without e (drop (i + 1) m))
                ∙ (rw (kept e i m c.loop-color-test.true w.if-color-level.true) at l.invariant.2),
          )
      | else-color-level w ↦ (
        omega (arith, w.k-is, l.invariant.0),
        ap length w.left-is ∙ l.invariant.1,
        rw (w.left-is, w.k-is) (rw (gone e i m c.loop-color-test.true w.if-color-level.false) at l.invariant.2),
      )
    ]

pub invariant_of-result : goal.invariant_of-result
invariant_of-result c =
    let l = c.loop-color in
    let s = c.args.self.now in
    let e = c.args.level.0 in
    let h = is s e l.k l.color-index l.left l.invariant.1 l.invariant.0 l.auto.color-index-end c.loop-color-test.false l.invariant.2 in
    record {
      few = omega (arith, few s, l.invariant.0, l.auto.color-index-end);
      rising = rw h (ascends_remove e (colors_of s) s.rising);
    }

pub returns : goal.returns
returns c =
    let l = c.loop-color in
    let s = c.args.self.now in
    let e = c.args.level.0 in
    record {
      count_value = size s e l.k l.color-index l.left l.invariant.1 l.invariant.0 l.auto.color-index-end c.loop-color-test.false l.invariant.2;
      colors_value = is s e l.k l.color-index l.left l.invariant.1 l.invariant.0 l.auto.color-index-end c.loop-color-test.false l.invariant.2;
    }
