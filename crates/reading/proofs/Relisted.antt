-- The list made again. Assumes nothing.
use mathlib.Core.Path.{◌≡◌, refl, sym, ap, ◌∙◌}
use mathlib.Core.Bool.{Bool, true, false, cond, ◌&&◌, true≢false}
use mathlib.Core.List.{List, [], ◌∷◌, ◌++◌}
use Prim.Native.Nat.{ℕ, suc, ◌<◌, ◌≤◌}
use native.Mathlib.Omega.{arith}
use lib.Dec.{eqb, leb}
use lib.ListN.{length, get_or, take, drop}
use lib.Pointwise.{pointwise}
use lib.Seq.{take_at}
use borrow.Author.Tests.{eq-eqb, ne_eqb, le-leb, eqb-true}
use Rattle.lists.specs.Same.{same_list}
use Rattle.lists.specs.Written.{front}
use Rattle.accept.specs.Palette.{Palette}
use Rattle.accept.specs.Accepted.{refusal}
use Rattle.accept.proofs.Accepted.{accepted_of_zero}
use Rattle.listing.specs.Listing.{call_list, list_number, Lists}
use Rattle.listing.specs.declared.Listed.{Listed}
use Rattle.listing.proofs.Length.{list_few}
use Rattle.reading.specs.Reading.{relists}

-- two slices compared
pub same_compared : (xs ys : List ℕ) → pointwise eqb xs ys ≡ same_list xs ys
unfolding same_list
same_compared [] [] = refl
same_compared [] (y ∷ ys) = refl
same_compared (x ∷ xs) [] = refl
same_compared (x ∷ xs) (y ∷ ys) = ap (λ (b : Bool). eqb x y && b) (same_compared xs ys)

-- a place where two lists differ
abbrev pub Differ : List ℕ → List ℕ → Type 0
Differ xs ys = (k : ℕ) × (k < length ys) × (get_or xs k 0 ≡ get_or ys k 0 → ⊥)

differ_within : (xs ys : List ℕ) → length ys ≤ length xs → same_list (take (length ys) xs) ys ≡ false → Differ xs ys
unfolding same_list
differ_within xs [] h e = absurd (true≢false e)
differ_within [] (y ∷ ys) h e = absurd (omega (arith, h))
differ_within (x ∷ xs) (y ∷ ys) h e = go (eqb x y) refl e (λ e. differ_within xs ys (omega (arith, h)) e)
  where
    go : (b : Bool) → eqb x y ≡ b → b && same_list (take (length ys) xs) ys ≡ false
        → (same_list (take (length ys) xs) ys ≡ false → Differ xs ys) → Differ (x ∷ xs) (y ∷ ys)
    go true p q d = let z = d q in (suc z.0, omega (arith, z.1), z.2)
    go false p q d = (0, omega arith, λ z. true≢false (sym (eq-eqb x y z) ∙ p))

pub differ : (n : ℕ) (xs ys : List ℕ) → n ≤ length xs → n ≡ length ys → same_list (take n xs) ys ≡ false → Differ xs ys
differ n xs ys h e f = differ_within xs ys (omega (arith, h, e)) (rw e at f)

module _ (w h bd : ℕ) (cache : List ℕ) (p : Palette) (before after' : List ℕ) (r : Listed) (l : Lists w h bd cache p before after' r)
    (room : 4234 ≤ length before) (ws : List ℕ) where
  abbrev no : ℕ
  no = refusal w h bd (length cache) p

  number_zero : no ≡ 0 → r.number ≡ 0
  unfolding list_number
  number_zero e =
      let few : length (call_list w h bd cache p) ≤ length before = omega (arith, list_few w h bd cache p (accepted_of_zero w h bd cache p e)) in
      l.number ∙ rw (e, le-leb (length (call_list w h bd cache p)) (length before) few) refl

  zero_number : r.number ≡ 0 → no ≡ 0
  unfolding list_number
  zero_number z =
      let go : (b c : Bool) → eqb no 0 ≡ b → cond b (cond c 0 16) no ≡ 0 → no ≡ 0 =
      elim [ true ↦ λ c e k. eqb-true no 0 e | false ↦ λ c e k. k ] in
      go (eqb no 0) (leb (length (call_list w h bd cache p)) (length before)) refl (sym l.number ∙ z)

  pub relists_not : (r.number ≡ 0 → ⊥) → false ≡ relists w h bd cache p ws
  unfolding relists
  relists_not h = rw (ne_eqb no 0 (λ e. h (number_zero e))) refl

  pub relists_same : r.number ≡ 0 → (s : Bool) → s ≡ same_list (take r.count after') ws → s ≡ relists w h bd cache p ws
  unfolding relists front
  relists_same z s e =
      let list = call_list w h bd cache p in
      let c : r.count ≡ length list = l.count ∙ rw z refl in
      let a : after' ≡ list ++ drop (length list) before = l.words ∙ rw z refl in
      let t : take r.count after' ≡ list = ap (λ (x : List ℕ). take r.count x) a ∙ take_at list (drop (length list) before) r.count
      (sym c) in
      e ∙ ap (λ (x : List ℕ). same_list x ws) t ∙ rw (eq-eqb no 0 (zero_number z)) refl
