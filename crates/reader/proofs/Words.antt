-- The word due is read. Assumes nothing.
use mathlib.Core.Path.{◌≡◌, refl, sym}
use mathlib.Core.Logic.{◌⊎◌, inl, inr}
use mathlib.Core.Bool.{Bool, true, false, cond, ◌&&◌}
use mathlib.Core.List.{List, ◌∷◌}
use Prim.Native.Nat.{ℕ, ◌+◌, ◌*◌, ◌-◌, ◌/◌, ◌%◌, ◌^◌, ◌<◌, ◌≤◌}
use native.Mathlib.Omega.{arith}
use lib.Dec.{eqb, ltb, leb}
use borrow.Author.Tests.{lt-ltb, le-leb, eq-eqb, eqb-true, ltb-true, ltb-false, leb-true, leb-false}
use Rattle.lists.specs.Counted.{bit}
use Rattle.literals.specs.Words.{word}
use Rattle.reader.specs.Reader.{got, fault, is_due, DueByFields, due}

pub due_word : (k f limit v : ℕ) (r : List ℕ) → v < limit → due k f limit (word k f v ∷ r) ≡ got v r
unfolding due is_due word
due_word k f limit v r h = at (k * 2 ^ 24 + f * 2 ^ 16)
  where
    at : (b : ℕ) → cond (leb (b + 0) (b + v) && ltb (b + v) (b + limit)) (got (b + v - (b + 0)) r) (fault 21) ≡ got v r
    at b =
        let c : b + v - (b + 0) ≡ v = omega arith in
        rw (le-leb (b + 0) (b + v) (omega arith), lt-ltb (b + v) (b + limit) (omega arith), c)

pub bit_below : (b : Bool) → bit b < 2
bit_below true = omega arith
bit_below false = omega arith

pub bit_eqb : (b : Bool) → eqb (bit b) 1 ≡ b
bit_eqb true = refl
bit_eqb false = refl

-- ---- the word due, by its three fields

-- a test of three parts of which not all hold
none_of : (a b c : Bool) → (a ≡ true → b ≡ true → c ≡ true → ⊥) → a && (b && c) ≡ false
none_of true true true h = absurd (h refl refl refl)
none_of true true false h = refl
none_of true false c h = refl
none_of false b c h = refl

-- kind and first field are the ones due, and the second is below the limit
pub due_fields : DueByFields
unfolding is_due word
due_fields kind first limit c f l = go (leb (word kind first 0) c) (ltb c (word kind first limit)) refl refl
  where
    -- the three fields make the word
    apart : (c < word kind first 0) ⊎ (word kind first limit ≤ c) → c / 2 ^ 24 ≡ kind → c / 2 ^ 16 % 256 ≡ first → c % 2 ^ 16 < limit → ⊥
    apart = elim [ inl h ↦ λ p q r. omega arith | inr h ↦ λ p q r. omega arith ]

    none : (c < word kind first 0) ⊎ (word kind first limit ≤ c)
        → false ≡ eqb (c / 2 ^ 24) kind && (eqb (c / 2 ^ 16 % 256) first && ltb (c % 2 ^ 16) limit)
    none h = sym (none_of _ _ _ (λ p q r. apart h (eqb-true _ _ p) (eqb-true _ _ q) (ltb-true _ _ r)))

    go : (a b : Bool) → leb (word kind first 0) c ≡ a → ltb c (word kind first limit) ≡ b
        → a && b ≡ eqb (c / 2 ^ 24) kind && (eqb (c / 2 ^ 16 % 256) first && ltb (c % 2 ^ 16) limit)
    go true true p q =
        let g : word kind first 0 ≤ c = leb-true _ _ p in
        let h : c < word kind first limit = ltb-true _ _ q in
        let x : c / 2 ^ 24 ≡ kind = omega arith in
        let y : c / 2 ^ 16 % 256 ≡ first = omega arith in
        let z : c % 2 ^ 16 < limit = omega arith in
        rw (eq-eqb _ _ x, eq-eqb _ _ y, lt-ltb _ _ z) refl
    go true false p q = none (inr (ltb-false _ _ q))
    go false b p q = none (inl (leb-false _ _ p))
