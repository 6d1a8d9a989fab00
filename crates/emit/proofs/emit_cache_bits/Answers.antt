use Prim.Native.Nat.{ℕ, ◌≤◌, ◌<◌, ◌+◌}
use mathlib.Core.Path.{◌≡◌, refl, sym, ap, ◌∙◌}
use mathlib.Core.List.{List, [], ◌∷◌}
use native.Mathlib.Numerals.{add-one}
use native.Mathlib.Omega.{arith}
use lib.Dec.{ltb}
use lib.ListN.{length, drop, get_or, drop_of_length-le}
use lib.Seq.{drop-cons, length-take-le}
use borrow.Author.Rules.{rules}
use Rattle.lists.specs.Counted.{elem, bit}
use Rattle.lists.specs.Written.{written}
use Rattle.literals.specs.Words.{bypass}
use Rattle.emit.specs.Colors.{remove, cache_words, untaken}
use Rattle.emit.specs.declared.Left.{Left}
use Rattle.emit.proofs.Bit.{byte_bit, bit_low}
use Rattle.emit.proofs.Remove.{elem_shorter}
use Rattle.emit.proofs.Untaken.{cache_step, cache_none, untaken_none}
use Rattle.emit.proofs.emit_cache_bits.Invariants.{Inv, colors_of}
use Rattle.emit.proofs.emit_cache_bits.Goals as goal

module _ (cache out₀ : List ℕ) (at : ℕ) (left₀ : Left) (out : List ℕ) (left : Left) (pos i : ℕ) (v : Inv cache out₀ at left₀ out left pos i) where
  abbrev rest : List ℕ
  rest = drop i cache

  -- nothing is left to send
  record Ended : Type 0 where
    count : left.count ≡ length (untaken cache (colors_of left₀))
    kept : colors_of left ≡ untaken cache (colors_of left₀)
    place : pos ≡ at + length (cache_words cache (colors_of left₀))
    wrote : out ≡ written out₀ at (cache_words cache (colors_of left₀))

  ended : cache_words rest (colors_of left) ≡ [] → untaken rest (colors_of left) ≡ colors_of left → Ended
  unfolding written
  ended none same =
      let k : colors_of left ≡ untaken cache (colors_of left₀) = sym same ∙ v.kept in
      record {
        count = v.count ∙ ap length k;
        kept = k;
        place = omega (arith, rw none at v.place);
        wrote = rw none at v.wrote;
      }

  abbrev this : ℕ
  this = get_or cache i 0

  split : i < length cache → rest ≡ this ∷ drop (i + 1) cache
  split h = rw (drop-cons cache i 0 h, add-one) refl

  module _ (more : i < length cache) (some : 0 < length (colors_of left)) where
    sent : cache_words rest (colors_of left) ≡ bypass 1 (bit (elem this (colors_of left))) ∷ cache_words (drop (i + 1) cache) (remove this (colors_of left))
    sent = rw (split more) (cache_step this (drop (i + 1) cache) (colors_of left) some)

    fits : at + length (cache_words cache (colors_of left₀)) ≤ length out₀ → pos < length out
    fits h = omega (arith, h, v.size, v.place, ap length sent)

    turn : (left' : Left) (out' : List ℕ) (pos' b : ℕ) → left'.count ≡ length (remove this (colors_of left))
        → colors_of left' ≡ remove this (colors_of left) → b ≡ bit (ltb left'.count left.count) → pos' ≡ pos + 1
        → out' ≡ written out pos (bypass 1 b ∷ []) → length out' ≡ length out → Inv cache out₀ at left₀ out' left' pos' (i + 1)
    unfolding written untaken
    turn left' out' pos' b hc hl hb hp ho hs =
        let L = colors_of left in
        let told : b ≡ bit (elem this L) =
        hb ∙ ap (λ (x : ℕ). bit (ltb x left.count)) hc ∙ ap (λ (x : ℕ). bit (ltb (length (remove this L)) x)) v.count
        ∙ ap bit (elem_shorter this L) in
        record {
          count = hc ∙ ap length (sym hl);
          size = hs ∙ v.size;
          place = rw (hp, hl) (omega (arith, v.place, ap length sent));
          wrote = rw (ho, hp, hl, told) (rw sent at v.wrote);
          kept = rw hl (rw (split more) at v.kept);
        }

pub loop-entry-init : goal.loop-entry-init
loop-entry-init c =
    record {
      count =
          let eight : length c.args.all.colors ≡ 8 = search rules in
          sym (length-take-le c.args.all.count c.args.all.colors (omega (arith, eight, c.args.all.few)));
      size = refl;
      place = refl;
      wrote = refl;
      kept = refl;
    }

-- all entries are sent
none : (cache cs : List ℕ) (i : ℕ) → length cache ≤ i → cache_words (drop i cache) cs ≡ []
unfolding cache_words
none cache cs i h = rw (drop_of_length-le cache {i = i} h) refl

same : (cache cs : List ℕ) (i : ℕ) → length cache ≤ i → untaken (drop i cache) cs ≡ cs
unfolding untaken
same cache cs i h = rw (drop_of_length-le cache {i = i} h) refl

pub returns-then-count-eq0 : goal.returns-then-count-eq0
returns-then-count-eq0 c =
    let l = c.loop-entry in
    let none : length (colors_of l.left) ≡ 0 = omega (arith, l.invariant.count, c.if-count-eq0.true) in
    let e = ended _ _ _ _ _ _ _ l.entry-index l.invariant (cache_none _ (colors_of l.left) none) (untaken_none _ (colors_of l.left) none) in
    record { count_value = e.count; colors_value = e.kept; next_value = e.place; out_after = e.wrote }

pub put_bypass-pos-requires : goal.put_bypass-pos-requires
put_bypass-pos-requires c =
    let some : 0 < length (colors_of c.loop-entry.left) = omega (arith, c.loop-entry.invariant.count, c.if-count-eq0.false) in
    let l = c.loop-entry in
    let h : l.pos < length l.out = fits _ _ _ _ _ _ _ l.entry-index l.invariant c.loop-entry-test.true some c.requires in
    (omega arith, omega (arith, bit_low _ _ c.from.ensures), h)

pub loop-entry-preserved : goal.loop-entry-preserved
loop-entry-preserved c =
    let some : 0 < length (colors_of c.loop-entry.left) = omega (arith, c.loop-entry.invariant.count, c.if-count-eq0.false) in
    let l = c.loop-entry in
    let p = c.put_bypass-pos in
    let k = c.without-left in
    turn _ _ _ _ _ _ _ l.entry-index l.invariant c.loop-entry-test.true some k.result p.new.out p.result _
    k.ensures.count_value k.ensures.colors_value (c.from.ensures ∙ byte_bit _) p.ensures.0 p.ensures.1 p.auto.out

pub returns : goal.returns
returns c =
    let l = c.loop-entry in
    let e = ended _ _ _ _ _ _ _ l.entry-index l.invariant (none _ _ l.entry-index (omega arith)) (same _ _ l.entry-index (omega arith)) in
    record { count_value = e.count; colors_value = e.kept; next_value = e.place; out_after = e.wrote }
