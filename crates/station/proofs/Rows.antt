-- The answers of a strip in rows and in pairs, one behind the other. Assumes nothing.
use mathlib.Core.Path.{◌≡◌, refl, sym, ap, ◌∙◌}
use mathlib.Core.Bool.{Bool, true, false}
use mathlib.Core.List.{List, [], ◌∷◌, ◌++◌, append_assoc}
use Prim.Native.Nat.{ℕ, ◌+◌, ◌-◌, ◌*◌, ◌≤◌, ◌<◌}
use native.Mathlib.Nat.{le_of_eq}
use native.Mathlib.Numerals.{add-one, unary_clauses}
use native.Mathlib.Omega.{arith}
use lib.Dec.{leb}
use borrow.Author.Tests.{leb-true, leb-false}
use lib.ListN.{length, get_or, take, set, length-set}
use lib.Seq.{take_all, take-suc-set}
use lib.Ieee.{Float}
use borrow.Rule.Slice.PartMut.{put_mid, same_len_mid, mid_len}
use Rattle.lists.specs.Counted.{up_to}
use Rattle.lists.proofs.Counted.{up_to_more}
use Rattle.lists.proofs.Parts.{put_front}
use Rattle.accept.specs.declared.Palette.{Palette}
use Rattle.accept.specs.Answer.{refused_by}
use Rattle.search.proofs.Answer.{few_colors}
use Rattle.strip.specs.Strip.{Searched}
use Rattle.station.specs.Searched.{bits_of}
use Rattle.station.specs.Strip.{Few, pair_at}

-- of 64 answers, each told in k places, those before the i-th stand in front
module _ {A : Type 0} (k : ℕ) (told : ℕ → List A) where
  pub record Begun (out : List A) (i : ℕ) : Type 0 where
    pub most : i ≤ 64
    pub count : length out ≡ k * 64
    pub front : take (k * i) out ≡ up_to told i

  pub begins : (out : List A) → length out ≡ k * 64 → Begun out 0
  unfolding up_to
  begins out e = record { most = omega arith; count = e; front = simp unary_clauses refl }

  pub ends : (out : List A) (i : ℕ) → Begun out i → 64 ≤ i → out ≡ up_to told 64
  ends out i b h =
      let m = b.most in
      let e : i ≡ 64 = omega arith in
      sym (take_all (k * 64) out (le_of_eq b.count)) ∙ rw e at b.front

  -- the i-th is put in its places
  pub turn : (out piece : List A) (i from to : ℕ) → Begun out i → i < 64 → from ≡ k * i → to ≡ k * (i + 1) → from ≤ to → to ≤ k * 64
      → length piece ≡ to - from → piece ≡ told i → Begun (put_mid from (to - from) out piece) (i + 1)
  turn out piece i from to b h start end up inside count is =
      let c = b.count in
      let long : to ≤ length out = rw c inside in
      record {
        most = omega arith;
        count = same_len_mid from (to - from) out piece (count ∙ sym (mid_len from to out long)) ∙ c;
        front = rw (← end) (put_front from to out piece up long count)
            ∙ ap (λ m. take m out ++ piece) start ∙ ap (λ x. x ++ piece) b.front ∙ ap (λ x. up_to told i ++ x) is
            ∙ sym (up_to_more told i);
      }

-- a pair is put: head and map bits
pub pair_turn : (answers : List Palette) (bits : List Float) (i : ℕ) → Begun 2 (pair_at answers) bits i → i < 64
    → (p : Palette) → p ≡ get_or answers i (refused_by 0)
    → Begun 2 (pair_at answers) (set (set bits (2 * i) p.head) (2 * i + 1) p.map_bits) (i + 1)
pair_turn answers bits i b h p is =
    let c = b.count in
    let headed = set bits (2 * i) p.head in
    let long : length headed ≡ 128 = length-set bits (2 * i) p.head ∙ c in
    let k : 2 * (i + 1) ≡ 2 * i + 1 + 1 = omega arith in
    let first : take (2 * i + 1) headed ≡ up_to (pair_at answers) i ++ (p.head ∷ []) =
    rw add-one (take-suc-set bits (2 * i) p.head (omega arith)) ∙ ap (λ x. x ++ (p.head ∷ [])) b.front in
    record {
      most = omega arith;
      count = length-set headed (2 * i + 1) p.map_bits ∙ long;
      front = ap (λ m. take m (set headed (2 * i + 1) p.map_bits)) k
          ∙ rw add-one (take-suc-set headed (2 * i + 1) p.map_bits (omega (arith, long)))
          ∙ ap (λ x. x ++ (p.map_bits ∷ [])) first
          ∙ append_assoc (up_to (pair_at answers) i) (p.head ∷ []) (p.map_bits ∷ [])
          ∙ ap (λ q. up_to (pair_at answers) i ++ bits_of q) is ∙ sym (up_to_more (pair_at answers) i);
    }

-- no answer of a searched strip has more than eight colours
pub answers_few : (sides : List ℕ) (samples costs : List Float) (bd : ℕ) (lambda : Float) (map₀ map flags₀ flags : List ℕ)
    (count : ℕ) (answers : List Palette) → Searched sides samples costs bd lambda map₀ map flags₀ flags count answers → Few answers
answers_few sides samples costs bd lambda map₀ map flags₀ flags count answers s i = go (leb count i) refl
  where
    go : (t : Bool) → leb count i ≡ t → (get_or answers i (refused_by 0)).n ≤ 8
    go true e = rw (s.others i (leb-true count i e)) (omega arith)
    go false e = few_colors _ _ _ _ _ _ _ _ (s.blocks i (leb-false count i e))
