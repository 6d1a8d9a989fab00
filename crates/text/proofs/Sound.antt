-- A header without a fault is small, and what a number of 0 says of a text. Assumes nothing.
use Prim.Native.Nat.{ℕ, ◌+◌, ◌*◌, ◌≤◌}
use mathlib.Core.Path.{◌≡◌, refl, sym, ap, ◌∙◌, subst}
use mathlib.Core.Bool.{Bool, true, false, cond, not, ◌&&◌, true≢false}
use mathlib.Core.List.{List}
use native.Mathlib.Nat.{mul-le-mul}
use native.Mathlib.Omega.{arith}
use lib.Dec.{eqb, leb}
use borrow.Author.Tests.{leb-true, eqb-true, eq-eqb}
use Rattle.lists.specs.Counted.{within}
use Rattle.lists.proofs.Choice.{held, either_way}
use Rattle.lists.proofs.Counted.{within_at}
use Rattle.fields.specs.Fields.{is_line}
use Rattle.accept.specs.Accepted.{sides_ok, depth_ok, orient_ok, cache_ok}
use Rattle.accept.proofs.Accepted.{sides_at}
use Rattle.refusals.specs.Numbers.{number_of, number}
use Rattle.refusals.specs.declared.Refusal.{Refusal}
use Rattle.refusals.specs.declared.Refusal.TheVariants.{Side, Depth, SampleCount, Lambda, Costs, Sample, Room, Small as Small_block, OneLevel, ManyLevels, Colors, Orientation, Cache, Lengths, Map, WordRoom, Text, Context, BlockCount, ListEnd, Word, WordsLeft, NotListed, AdaptedLength, AdaptedRows}
use Rattle.std.specs.Prelude.{Result, Ok, Err}
use Rattle.std.specs.Result.{IsErrAnd}
use Rattle.text.specs.declared.Header.{Header}
use Rattle.text.specs.Text.{most, number_at, header_at, header_fault, Small, lines_in, places_of, is_body, text_number}

-- ---- bounds

pub sound : (h : Header) → header_fault h ≡ 0 → Small h
unfolding header_fault cache_ok
sound h e =
    let a = held (sides_ok h.width h.height) 0 _ e in
    let b = held (depth_ok h.bd) 1 _ a.1 in
    let c = held (within 2 8 h.n) 10 _ b.1 in
    let d = held (orient_ok h.width h.height h.transposed) 11 _ c.1 in
    let s = sides_at h.width h.height a.0 in
    record {
      width = s.0.1;
      height = s.1.1;
      colors = (within_at 2 8 h.n c.0).1;
      cached = leb-true h.cached 64 (held (cache_ok h.cached) 12 _ d.1).0;
    }

pub lines_small : (h : Header) → Small h → lines_in h ≤ 64
lines_small h l = either_way (λ n. n ≤ 64) h.transposed h.width h.height l.width l.height

pub cells_small : (h : Header) → Small h → h.height * h.width ≤ 4096
cells_small h l = mul-le-mul l.height l.width

pub rows_small : (h : Header) → Small h → h.height * (8 * h.width + 1) ≤ 32832
rows_small h l = let k : 8 * h.width + 1 ≤ 513 = omega (arith, l.width) in mul-le-mul l.height k

pub end_small : (h : Header) (at : ℕ) → Small h → (places_of h at).end ≤ at + 33972
unfolding places_of
end_small h at l = omega (arith, lines_small h l, rows_small h l, l.colors, l.cached)

-- ---- the text at a place

module _ (s : List ℕ) (at : ℕ) where
  body_by : (f : ℕ) (t b : Bool) → eqb f 0 ≡ t → cond t (cond (not b) 17 0) f ≡ 0 → (f ≡ 0) × (b ≡ true)
  body_by f true b p q = (eqb-true f 0 p, (held b 16 0 q).0)
  body_by f false b p q = absurd (true≢false (sym (eq-eqb f 0 q) ∙ p))

  pub in_form : text_number s at ≡ 0 → (header_fault (header_at s at) ≡ 0) × (is_body s at (header_at s at) ≡ true)
  unfolding text_number
  in_form e =
      let f = header_fault (header_at s at) in
      body_by f (eqb f 0) (is_body s at (header_at s at)) refl (held (is_line most s at 6 && leb (number_at s (at + 32)) 1) 16 _ e).1

  pub in_form_small : (h : Header) → h ≡ header_at s at → text_number s at ≡ 0 → Small h
  in_form_small h e z = subst (λ (x : Header). Small x) (sym e) (sound (header_at s at) (in_form z).0)

-- ---- a refusal that is passed on

pub passed_on : {A : Type 0} (r : Result A Refusal) (e : Refusal) → IsErrAnd r (λ x. x ≡ e) → number r ≡ number_of e
passed_on (Ok a) e h = absurd h
passed_on (Err x) e h = ap number_of h

-- no refusal has the number 0
pub number_ne : (e : Refusal) → number_of e ≡ 0 → ⊥
number_ne Side e = omega arith
number_ne Depth e = omega arith
number_ne SampleCount e = omega arith
number_ne Lambda e = omega arith
number_ne Costs e = omega arith
number_ne Sample e = omega arith
number_ne Room e = omega arith
number_ne Small_block e = omega arith
number_ne OneLevel e = omega arith
number_ne ManyLevels e = omega arith
number_ne Colors e = omega arith
number_ne Orientation e = omega arith
number_ne Cache e = omega arith
number_ne Lengths e = omega arith
number_ne Map e = omega arith
number_ne WordRoom e = omega arith
number_ne Text e = omega arith
number_ne Context e = omega arith
number_ne BlockCount e = omega arith
number_ne ListEnd e = omega arith
number_ne Word e = omega arith
number_ne WordsLeft e = omega arith
number_ne NotListed e = omega arith
number_ne AdaptedLength e = omega arith
number_ne AdaptedRows e = omega arith
